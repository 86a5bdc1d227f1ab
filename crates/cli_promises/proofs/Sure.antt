-- A chain that has what is promised keeps it while it grows.
use Rattle.std.proofs.Common.{◌≡◌, ℕ, ◌<◌, true, List, [], ◌∷◌, ◌++◌, length, get_or, ◌∙◌, ap, arith, append_assoc, refl, sym}
use Rattle.std.specs.Prelude.{Some, slice_get}
use Rattle.std.proofs.lemmas.Bool.{cases_lt}
use Rattle.std.proofs.Common.{inl, inr}
use Rattle.std.proofs.lemmas.List.{length-append, get_or_append_left, take_at, take_all, take-append-le}
use Rattle.std.proofs.lemmas.Option.{slice_get_within, slice_get-get_or, get_or_from_slice_get}
use Rattle.block_codec.specs.declared.block.Block.{Block}
use Rattle.block_log.specs.Standing.{Logged, with_blocks, NextBlock, chain_of}
use Rattle.cli_promises.specs.Promises.{Promise, NoPromise, Holds, IsMarked, Line, IsPromiseKept}
use Rattle.cli_promises.specs.Promises.{KeepsLines, IsPartly}

-- the chain has what is promised
abbrev pub IsSure : Logged → Promise → Type 0
IsSure logged NoPromise = Unit {0}
IsSure logged (Holds number block) = slice_get logged.blocks number ≡ Some block
IsSure logged IsMarked = logged.marked ≡ true

-- the chain has what all these lines promise
abbrev pub AreSure : Logged → List Line → Type 0
AreSure logged [] = Unit {0}
AreSure logged (line ∷ lines) = IsSure logged line.promise × AreSure logged lines

-- a longer chain has a block too
pub has_more : (blocks more : List Block) (number : ℕ) (block : Block) → slice_get blocks number ≡ Some block → slice_get (blocks ++ more) number ≡ Some block
has_more blocks more number block is =
    let within : number < length blocks = slice_get_within blocks number block is in
    let here : get_or blocks number block ≡ block = get_or_from_slice_get blocks number block block is in
    slice_get-get_or (blocks ++ more) number block (omega (arith, within, length-append blocks more)) ∙ ap Some (get_or_append_left blocks more block number within ∙ here)

sure_more : (logged : Logged) (more : List Block) (promise : Promise) → IsSure logged promise → IsSure (with_blocks logged more) promise
sure_more logged more NoPromise sure = tt
sure_more logged more (Holds number block) sure = has_more logged.blocks more number block sure
sure_more logged more IsMarked sure = sure

-- a longer chain has what all these lines promise too
pub all_sure_more : (logged : Logged) (more : List Block) (lines : List Line) → AreSure logged lines → AreSure (with_blocks logged more) lines
all_sure_more logged more [] sure = tt
all_sure_more logged more (line ∷ lines) sure = (sure_more logged more line.promise sure.0, all_sure_more logged more lines sure.1)

-- one line more
pub sure_push : (logged : Logged) (lines : List Line) (line : Line) → AreSure logged lines → IsSure logged line.promise → AreSure logged (lines ++ line ∷ [])
sure_push logged [] line all one = (one, tt)
sure_push logged (l ∷ lines) line all one = (all.0, sure_push logged lines line all.1 one)

-- an image of a chain keeps what the chain has
pub sure_kept : (next : NextBlock) (logged : Logged) (promise : Promise) (image : List ℕ) → IsSure logged promise → chain_of next image ≡ Some logged → IsPromiseKept next promise image
sure_kept next logged NoPromise image sure is = tt
sure_kept next logged (Holds number block) image sure is = (logged, is, sure)
sure_kept next logged IsMarked image sure is = (logged, is, sure)

-- an image of this chain, or of a longer one, keeps all that the chain has
pub all_sure_kept : (next : NextBlock) (logged : Logged) (more : List Block) (lines : List Line) (image : List ℕ) → AreSure logged lines → chain_of next image ≡ Some (with_blocks logged more) → KeepsLines next lines image
all_sure_kept next logged more [] image sure is = tt
all_sure_kept next logged more (line ∷ lines) image sure is =
    (sure_kept next (with_blocks logged more) line.promise image (sure_more logged more line.promise sure.0) is, all_sure_kept next logged more lines image sure.1 is)

-- ---- chains with some first ones of other blocks

-- a chain with some first ones of the added blocks, also if more are added
pub partly_more : (next : NextBlock) (first : Logged) (added more : List Block) (image : List ℕ) → IsPartly next first added image → IsPartly next first (added ++ more) image
partly_more next first added more image (count, is) = elim (cases_lt (length added) count) [
  | inr short ↦ (count, is ∙ ap (λ (l : List Block). Some (with_blocks first l)) (sym (take-append-le count added more (omega (arith, short)))))
  | inl long ↦ (length added, is ∙ ap (λ (l : List Block). Some (with_blocks first l)) (take_all count added (omega (arith, long)) ∙ sym (take_at added more (length added) refl)))
]

-- the chain with all blocks added so far
pub partly_held : (next : NextBlock) (first : Logged) (added more : List Block) (logged : Logged) (image : List ℕ) → logged ≡ with_blocks first added → chain_of next image ≡ Some logged → IsPartly next first (added ++ more) image
partly_held next first added more logged image logged_is is = (length added, is ∙ ap Some (logged_is ∙ ap (with_blocks first) (sym (take_at added more (length added) refl))))

-- the chain with more blocks after those added so far
pub partly_longer : (next : NextBlock) (first : Logged) (added more : List Block) (logged : Logged) (image : List ℕ) → logged ≡ with_blocks first added → chain_of next image ≡ Some (with_blocks logged more) → IsPartly next first (added ++ more) image
partly_longer next first added more logged image logged_is is =
    let all : List Block = added ++ more in
    let longer : with_blocks logged more ≡ with_blocks first (added ++ more) =
    ap (λ (l : Logged). with_blocks l more) logged_is ∙ ap (λ (b : List Block). record { blocks = b; marked = first.marked }) (append_assoc first.blocks added more) in
    (length all, is ∙ ap Some (longer ∙ ap (with_blocks first) (sym (take_all (length all) all (omega arith)))))
