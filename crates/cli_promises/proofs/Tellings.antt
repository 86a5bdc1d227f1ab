-- What was printed, one part after another, and what it promised.
use Rattle.std.proofs.Common.{◌≡◌, ◌⊎◌, inl, inr, ⊎_elim, ℕ, Bool, true, false, List, [], ◌∷◌, ◌++◌, take, drop, map, refl, sym, ◌∙◌, ap, subst}
use Rattle.std.specs.Prelude.{Option, Some, Result, Ok, Err, is_ok}
use Rattle.std.proofs.lemmas.List.{take-append-drop, map-append}
use Rattle.lc_io.specs.Disk.{DiskState, Stays}
use Rattle.lc_io.specs.Outside.{Tell, Tells, with_tells}
use Rattle.lc_io.proofs.Telling.{with_tells-with_tells, with_none}
use Rattle.disk_model.specs.Disk.{IsImage, Keeps, LeftSince}
use Rattle.disk_model.proofs.Moments.{started, since}
use Rattle.disk_model.proofs.Calls.{stay_keeps}
use Rattle.block_log.specs.Standing.{NextBlock}
use Rattle.cli_promises.specs.Promises.{Promise, NoPromise, Line, plain, AreBegun, NoMore, Part}
use Rattle.cli_promises.specs.Promises.{Full, AreLines, AreKept, IsPromiseKept, KeepsLines}
use Rattle.cli_promises.specs.Promises.{IsKeptAt, Telling}

-- ---- lines that were begun, and more of them

begun_join : (ta tb : List Tell) (a b : List Line) → AreLines ta a → AreBegun tb b → AreBegun (ta ++ tb) (a ++ b)
begun_join [] tb [] b same begun = begun
begun_join [] tb (l ∷ a) b same begun = absurd (cc same)
begun_join (t ∷ ta) tb [] b same begun = absurd (cc same)
begun_join (t ∷ ta) tb (l ∷ a) b same begun = Full t (ta ++ tb) l (a ++ b) (cc same) (begun_join ta tb a b (cc same) begun)

begun_longer : (tells : List Tell) (lines more : List Line) → AreBegun tells lines → AreBegun tells (lines ++ more)
begun_longer tells lines more (NoMore ls) = NoMore (ls ++ more)
begun_longer tells lines more (Part t l ls front) = Part t l (ls ++ more) front
begun_longer tells lines more (Full t ts l ls same begun) = Full t ts l (ls ++ more) same (begun_longer ts ls more begun)

module _ {D : Type 0} (next : NextBlock) (now : D → ℕ) (disk : D → ℕ → Option DiskState) (told : D → Option (List Tell)) where
  -- ---- promises

  kept_longer : (new : D) (tells : List Tell) (lines more : List Line) → AreBegun tells lines → AreKept next now disk new tells lines → AreKept next now disk new tells (lines ++ more)
  kept_longer new tells lines more (NoMore ls) kept = tt
  kept_longer new tells lines more (Part t l ls front) kept = (kept.0, tt)
  kept_longer new tells lines more (Full t ts l ls same begun) kept = (kept.0, kept_longer new ts ls more begun kept.1)

  kept_join : (new : D) (ta tb : List Tell) (a b : List Line) → AreLines ta a → AreKept next now disk new ta a → AreKept next now disk new tb b → AreKept next now disk new (ta ++ tb) (a ++ b)
  kept_join new [] tb [] b same first second = second
  kept_join new [] tb (l ∷ a) b same first second = absurd (cc same)
  kept_join new (t ∷ ta) tb [] b same first second = absurd (cc same)
  kept_join new (t ∷ ta) tb (l ∷ a) b same first second = (first.0, kept_join new ta tb a b (cc same) first.1 second)

  -- what is kept so far stays kept, if each image of what follows keeps it
  kept_on : (mid new : D) (P : List ℕ → Type 0) → Keeps now disk mid new P → (tells : List Tell) (lines : List Line) → ((c : List ℕ) → P c → KeepsLines next lines c) → AreKept next now disk mid tells lines → AreKept next now disk new tells lines
  kept_on mid new P keeps [] lines leads kept = tt
  kept_on mid new P keeps (t ∷ ts) [] leads kept = tt
  kept_on mid new P keeps (t ∷ ts) (l ∷ ls) leads (one, others) = (
    λ c left. ⊎_elim (one c) (λ p. (leads c p).0) (since now disk mid new P t.at c keeps left),
    kept_on mid new P keeps ts ls (λ c p. (leads c p).1) others,
  )

  -- ---- printing

  pub none_told : (old new : D) (lines : List Line) → told new ≡ told old → Telling next now disk told old new lines false
  none_told old new lines same = record { tells = []; added = same ∙ with_none (told old); begun = NoMore lines; whole = λ e. absurd (cc e); kept = tt }

  pub none_to_tell : (old new : D) (all : Bool) → told new ≡ told old → Telling next now disk told old new [] all
  none_to_tell old new all same = record { tells = []; added = same ∙ with_none (told old); begun = NoMore []; whole = λ e. refl; kept = tt }

  -- some lines, then others
  pub join : (old mid new : D) (P : List ℕ → Type 0) (a b : List Line) (all : Bool) → Telling next now disk told old mid a true → Keeps now disk mid new P → ((c : List ℕ) → P c → KeepsLines next a c) → Telling next now disk told mid new b all
      → Telling next now disk told old new (a ++ b) all
  join old mid new P a b all first keeps leads second =
      let same = first.whole refl in
      record {
        tells = first.tells ++ second.tells;
        added = second.added ∙ ap (λ (o : Option (List Tell)). with_tells o second.tells) first.added ∙ with_tells-with_tells (told old) first.tells second.tells;
        begun = begun_join first.tells second.tells a b same second.begun;
        whole = λ e. map-append (λ (tell : Tell). tell.bytes) first.tells second.tells
            ∙ ap (λ (l : List (List ℕ)). l ++ map (λ (tell : Tell). tell.bytes) second.tells) same ∙ ap (λ (l : List (List ℕ)). map (λ (line : Line). line.text) a ++ l) (second.whole e)
            ∙ sym (map-append (λ (line : Line). line.text) a b);
        kept = kept_join new first.tells second.tells a b same (kept_on mid new P keeps first.tells a leads first.kept) second.kept;
      }

  -- more lines, none of which is printed
  pub longer : (old new : D) (a b : List Line) (all : Bool) → Telling next now disk told old new a all → Telling next now disk told old new (a ++ b) false
  longer old new a b all t = record {
    tells = t.tells;
    added = t.added;
    begun = begun_longer t.tells a b t.begun;
    whole = λ e. absurd (cc e);
    kept = kept_longer new t.tells a b t.begun t.kept;
  }

  -- ---- printing one line

  -- a call that leaves the disk as it was
  pub still : (old new : D) (P : List ℕ → Type 0) → ((s : DiskState) (c : List ℕ) → disk old (now old) ≡ Some s → IsImage s c → P c) → Stays now disk old new → Keeps now disk old new P
  still old new P here stays = stay_keeps now disk old old new P (started now disk old P here) stays

  kept_now : (old new : D) (promise : Promise) → IsKeptAt next now disk old promise → Stays now disk old new → (c : List ℕ) → LeftSince now disk new (now old) c → IsPromiseKept next promise c
  kept_now old new promise here stays c left = (still old new (IsPromiseKept next promise) here stays).each left.0 left.3 c left.1 left.2 left.4 left.5

  pub told_ok : (old new : D) (bytes : List ℕ) (promise : Promise) → IsKeptAt next now disk old promise → Stays now disk old new → told new ≡ with_tells (told old) (record { at = now old; bytes = bytes } ∷ [])
      → Telling next now disk told old new (record { text = bytes; promise = promise } ∷ []) true
  told_ok old new bytes promise here stays is = record {
    tells = record { at = now old; bytes = bytes } ∷ [];
    added = is;
    begun = Full (record { at = now old; bytes = bytes }) [] (record { text = bytes; promise = promise }) [] refl (NoMore []);
    whole = λ e. refl;
    kept = (kept_now old new promise here stays, tt);
  }

  pub told_err : (old new : D) (bytes : List ℕ) (promise : Promise) → IsKeptAt next now disk old promise → Stays now disk old new
      → (told new ≡ told old) ⊎ ((n : ℕ) × (told new ≡ with_tells (told old) (record { at = now old; bytes = take n bytes } ∷ [])))
      → Telling next now disk told old new (record { text = bytes; promise = promise } ∷ []) false
  told_err old new bytes promise here stays (inl same) = none_told old new (record { text = bytes; promise = promise } ∷ []) same
  told_err old new bytes promise here stays (inr (n, is)) = record {
    tells = record { at = now old; bytes = take n bytes } ∷ [];
    added = is;
    begun = Part (record { at = now old; bytes = take n bytes }) (record { text = bytes; promise = promise }) [] (drop n bytes, sym (take-append-drop n bytes));
    whole = λ e. absurd (cc e);
    kept = (kept_now old new promise here stays, tt);
  }

  -- what was printed since a state at which no more had been printed than before
  pub told_since : (old mid new : D) (lines : List Line) (all : Bool) → told mid ≡ told old → Telling next now disk told mid new lines all → Telling next now disk told old new lines all
  told_since old mid new lines all same t = record { tells = t.tells; added = t.added ∙ ap (λ (o : Option (List Tell)). with_tells o t.tells) same; begun = t.begun; whole = t.whole; kept = t.kept }

  -- a line that promises nothing
  pub plain_told : (old new : D) (bytes text : List ℕ) (all : Bool) → bytes ≡ text
      → ((promise : Promise) → IsKeptAt next now disk old promise → Telling next now disk told old new (record { text = bytes; promise = promise } ∷ []) all) → Telling next now disk told old new (plain text ∷ []) all
  plain_told old new bytes text all is tell = subst (λ (b : List ℕ). Telling next now disk told old new (plain b ∷ []) all) is (tell NoPromise (λ state image at shows. tt))

  -- printing one line, whatever the call returns
  pub told_line : {T E : Type 0} (old new : D) (bytes : List ℕ) (promise : Promise) (result : Result T E) → IsKeptAt next now disk old promise → Stays now disk old new → Tells (now old) bytes (told old) (told new) result
      → Telling next now disk told old new (record { text = bytes; promise = promise } ∷ []) (is_ok result)
  told_line old new bytes promise (Ok x) here stays is = told_ok old new bytes promise here stays is
  told_line old new bytes promise (Err e) here stays is = told_err old new bytes promise here stays is
