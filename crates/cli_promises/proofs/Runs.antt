-- The laws about promises hold: a chain never loses a block or a mark that was acknowledged.
use Rattle.std.proofs.Common.{◌≡◌, inl, inr, ℕ, ◌≤◌, Bool, true, false, List, [], ◌∷◌, ◌++◌, take, map, refl, sym, ◌∙◌, ap, subst, append_assoc}
use Rattle.std.specs.Prelude.{Option, Some, nat_le, if◌then◌else◌, slice_get}
use Rattle.std.specs.List.{concat}
use Rattle.std.proofs.lemmas.Bool.{leb-true}
use Rattle.std.proofs.lemmas.List.{append-nil}
use Rattle.lc_io.specs.Disk.{DiskState}
use Rattle.lc_io.specs.Outside.{Tell, IsPrefix, bytes_told}
use Rattle.disk_model.specs.Disk.{IsImage}
use Rattle.block_codec.specs.declared.block.Block.{Block}
use Rattle.block_log.specs.Standing.{Logged, with_blocks, with_mark, NextBlock, chain_of}
use Rattle.cli_promises.specs.Promises.{Promise, NoPromise, Holds, IsMarked, Line, Change, NoChange}
use Rattle.cli_promises.specs.Promises.{Appends, Marks, AreBegun, NoMore, Part, Full, IsPromiseKept}
use Rattle.cli_promises.specs.Promises.{AreKept, MayLeave}
use Rattle.cli_promises.specs.Laws.{Left, AllAreKept, IsLonger, GoesOn, AreRuns, last_image}
use Rattle.cli_promises.specs.Laws.{all_acknowledged, acknowledged_by, StopLeaves}
use Rattle.cli_promises.proofs.Sure.{has_more}

-- ---- bytes

-- what was printed of lines is a prefix of them
pub begun_prefix : (tells : List Tell) (lines : List Line) → AreBegun tells lines → IsPrefix (bytes_told tells) (concat (map (λ (line : Line). line.text) lines))
begun_prefix tells lines (NoMore ls) = (concat (map (λ (line : Line). line.text) ls), refl)
begun_prefix tells lines (Part t l ls front) = (
  front.0 ++ concat (map (λ (line : Line). line.text) ls),
  ap (λ (b : List ℕ). b ++ concat (map (λ (line : Line). line.text) ls)) front.1 ∙ append_assoc t.bytes front.0 (concat (map (λ (line : Line). line.text) ls))
      ∙ ap (λ (b : List ℕ). b ++ (front.0 ++ concat (map (λ (line : Line). line.text) ls))) (sym (append-nil t.bytes)),
)
begun_prefix tells lines (Full t ts l ls same begun) =
    let f = begun_prefix ts ls begun in (
      f.0,
      ap (λ (b : List ℕ). l.text ++ b) f.1 ∙ sym (append_assoc l.text (bytes_told ts) f.0) ∙ ap (λ (b : List ℕ). (b ++ bytes_told ts) ++ f.0) (sym same),
    )

-- ---- runs one after another

-- a longer chain keeps a promise too
kept_more : (next : NextBlock) (before now : Logged) (promise : Promise) (image last : List ℕ) → IsLonger before now → chain_of next image ≡ Some before → chain_of next last ≡ Some now → IsPromiseKept next promise image → IsPromiseKept next promise last
kept_more next before now NoPromise image last longer is goes kept = tt
kept_more next before now (Holds number block) image last longer is goes (other, chain, there) =
    let same : other ≡ before = cc (chain, is) in
    let held : slice_get before.blocks number ≡ Some block = subst (λ (l : Logged). slice_get l.blocks number ≡ Some block) same there in
    (now, goes, ap (λ (b : List Block). slice_get b number) longer.blocks_are ∙ has_more before.blocks longer.more number block held)
kept_more next before now IsMarked image last longer is goes (other, chain, there) =
    let same : other ≡ before = cc (chain, is) in
    (now, goes, longer.stays_marked (subst (λ (l : Logged). l.marked ≡ true) same there))

-- and all promises
all_kept_more : (next : NextBlock) (before now : Logged) (promises : List Promise) (image last : List ℕ) → IsLonger before now → chain_of next image ≡ Some before → chain_of next last ≡ Some now → AllAreKept next promises image → AllAreKept next promises last
all_kept_more next before now [] image last longer is goes kept = tt
all_kept_more next before now (p ∷ ps) image last longer is goes kept = (kept_more next before now p image last longer is goes kept.0, all_kept_more next before now ps image last longer is goes kept.1)

-- a chain is as long as itself
as_long : (logged : Logged) → IsLonger logged logged
as_long logged = record { more = []; blocks_are = sym (append-nil logged.blocks); stays_marked = λ marked. marked }

-- what is longer than a longer one is longer
longer_twice : (first mid last : Logged) → IsLonger first mid → IsLonger mid last → IsLonger first last
longer_twice first mid last one other = record {
  more = one.more ++ other.more;
  blocks_are = other.blocks_are ∙ ap (λ (b : List Block). b ++ other.more) one.blocks_are ∙ append_assoc first.blocks one.more other.more;
  stays_marked = λ marked. other.stays_marked (one.stays_marked marked);
}

all_of_both : (next : NextBlock) (a b : List Promise) (image : List ℕ) → AllAreKept next a image → AllAreKept next b image → AllAreKept next (a ++ b) image
all_of_both next [] b image first second = second
all_of_both next (p ∷ a) b image first second = (first.0, all_of_both next a b image first.1 second)

-- runs keep what any of them promised
pub hold : (next : NextBlock) (first : List ℕ) (logged : Logged) (runs : List Left) → chain_of next first ≡ Some logged → AreRuns next first runs
    → (last : Logged) × IsLonger logged last × (chain_of next (last_image first runs) ≡ Some last) × AllAreKept next (all_acknowledged runs) (last_image first runs)
hold next first logged [] is runs = (logged, as_long logged, is, tt)
hold next first logged (left ∷ others) is runs =
    let g = runs.0 logged is in
    let h = hold next left.image g.0 others g.2 runs.2 in (
      h.0,
      longer_twice logged g.0 h.0 g.1 h.1,
      h.2,
      all_of_both next left.acknowledged (all_acknowledged others) (last_image left.image others) (all_kept_more next g.0 h.0 left.acknowledged left.image (last_image left.image others) h.1 g.2 h.2 runs.1) h.3,
    )

-- ---- one run, and a stop

with_more : (logged : Logged) (more : List Block) → IsLonger logged (with_blocks logged more)
with_more logged more = record { more = more; blocks_are = refl; stays_marked = λ marked. marked }

marked_too : (logged : Logged) → IsLonger logged (with_mark logged)
marked_too logged = record { more = []; blocks_are = sym (append-nil logged.blocks); stays_marked = λ marked. refl }

-- what a crash may leave extends the content's chain
goes_on : (next : NextBlock) (content : List ℕ) (change : Change) (image : List ℕ) → MayLeave next content change image → GoesOn next content image
goes_on next content NoChange image same logged is = (logged, as_long logged, ap (chain_of next) same ∙ is)
goes_on next content (Appends added) image (first, was, (n, at)) logged is =
    let same : first ≡ logged = cc (was, is) in
    (with_blocks logged (take n added), with_more logged (take n added), at ∙ ap (λ (l : Logged). Some (with_blocks l (take n added))) same)
goes_on next content Marks image (first, was, inl at) logged is =
    let same : first ≡ logged = cc (was, is) in
    (logged, as_long logged, at ∙ ap Some same)
goes_on next content Marks image (first, was, inr at) logged is =
    let same : first ≡ logged = cc (was, is) in
    (with_mark logged, marked_too logged, at ∙ ap (λ (l : Logged). Some (with_mark l)) same)

module _ {D : Type 0} (next : NextBlock) (now : D → ℕ) (disk : D → ℕ → Option DiskState) where
  -- what was acknowledged by a moment is kept then
  kept_by : (new : D) (t : ℕ) (s : DiskState) (image : List ℕ) → t ≤ now new → disk new t ≡ Some s → IsImage s image → (tells : List Tell) (lines : List Line) → AreKept next now disk new tells lines → AllAreKept next (acknowledged_by t tells lines) image
  kept_by new t s image to is at [] lines kept = tt
  kept_by new t s image to is at (tell ∷ tells) [] kept = tt
  kept_by new t s image to is at (tell ∷ tells) (line ∷ lines) kept = go (nat_le tell.at t) refl (kept_by new t s image to is at tells lines kept.1)
    where
      go : (b : Bool) → nat_le tell.at t ≡ b → AllAreKept next (acknowledged_by t tells lines) image → AllAreKept next (if b then line.promise ∷ acknowledged_by t tells lines else acknowledged_by t tells lines) image
      go true e others = (kept.0 image (t, leb-true tell.at t e, to, s, is, at), others)
      go false e others = others

  -- a stop of a run
  pub leaves : (told : D → Option (List Tell)) (old new : D) → StopLeaves next now disk told old new
  leaves told old new content change lines all telling images t state image from to at_t at = (
    goes_on next content change image (images.each t state image from to at_t at),
    kept_by new t state image to at_t at telling.tells lines telling.kept,
  )
