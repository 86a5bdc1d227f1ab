-- Lines that promise nothing, printed one after another.
use Rattle.std.proofs.Common.{◌≡◌, ◌⊎◌, ℕ, ◌+◌, ◌<◌, ◌≤◌, Bool, true, false, List, [], ◌∷◌, ◌++◌}
use Rattle.std.proofs.Common.{length, get_or, take, drop, map, Option, sym, ◌∙◌, subst}
use Rattle.std.proofs.lemmas.List.{take_all, take_more, get_or_read, take-append-drop, map-append}
use Rattle.std.proofs.lemmas.List.{map_push}
use Rattle.lc_io.specs.Disk.{DiskState, Stays}
use Rattle.lc_io.specs.Outside.{Tell, with_tells}
use Rattle.block_log.specs.Standing.{NextBlock}
use Rattle.cli_promises.specs.Promises.{NoPromise, Line, plain, KeepsLines, Telling}
use Rattle.cli_promises.proofs.Tellings.{join, longer, still, told_ok, told_err}

plain_kept : (next : NextBlock) (pieces : List (List ℕ)) (image : List ℕ) → KeepsLines next
    (map plain pieces) image
plain_kept next [] image = tt
plain_kept next (piece ∷ pieces) image = (tt, plain_kept next pieces image)

module _ {D : Type 0} (now : D → ℕ) (disk : D → ℕ → Option DiskState) (told : D → Option (List Tell)) (next : NextBlock) where
  -- one piece was printed
  pub plain_ok : (old new : D) (bytes text : List ℕ) → bytes ≡ text → Stays now disk old new → told new ≡ with_tells (told old) (record { at = now old; bytes = bytes } ∷ []) → Telling next now disk told old new (plain text ∷ []) true
  plain_ok old new bytes text is stays tells =
      subst (λ (b : List ℕ). Telling next now disk told old new (plain b ∷ []) true) is (told_ok next now disk told old new bytes NoPromise (λ state image at shows. tt) stays tells)

  -- one piece was not printed whole
  pub plain_err : (old new : D) (bytes text : List ℕ) → bytes ≡ text → Stays now disk old new
      → (told new ≡ told old) ⊎ ((n : ℕ) × (told new ≡ with_tells (told old) (record { at = now old; bytes = take n bytes } ∷ []))) → Telling next now disk told old new (plain text ∷ []) false
  plain_err old new bytes text is stays tells =
      subst (λ (b : List ℕ). Telling next now disk told old new (plain b ∷ []) false) is (told_err next now disk told old new bytes NoPromise (λ state image at shows. tt) stays tells)

  -- one more piece
  pub plain_more : (old mid new : D) (pieces : List (List ℕ)) (piece : List ℕ) (all : Bool) → Telling next now disk told old mid (map plain pieces) true → Stays now disk mid new → Telling next now disk told mid new (plain piece ∷ []) all
      → Telling next now disk told old new (map plain (pieces ++ piece ∷ [])) all
  plain_more old mid new pieces piece all so_far stays one =
      subst (λ (l : List Line). Telling next now disk told old new l all) (sym (map_push plain pieces piece))
      (join next now disk told old mid new (λ c. Unit {0}) (map plain pieces) (plain piece ∷ []) all so_far (still next now disk told mid new (λ c. Unit {0}) (λ s c at image. tt) stays) (λ c at. plain_kept next pieces c) one)

  -- more pieces
  pub plain_join : (old mid new : D) (pieces others : List (List ℕ)) (all : Bool)
      → Telling next now disk told old mid (map plain pieces) true → Stays now disk mid new
      → Telling next now disk told mid new (map plain others) all
      → Telling next now disk told old new (map plain (pieces ++ others)) all
  plain_join old mid new pieces others all so_far stays more =
      subst (λ (l : List Line). Telling next now disk told old new l all)
      (sym (map-append plain pieces others))
      (join next now disk told old mid new (λ c. Unit {0}) (map plain pieces)
      (map plain others) all so_far
      (still next now disk told mid new (λ c. Unit {0}) (λ s c at image. tt) stays)
      (λ c at. plain_kept next pieces c) more)

  -- some pieces, and others of which none is printed
  pub plain_cut : (old new : D) (pieces rest : List (List ℕ)) (all : Bool) → Telling next now disk told old new (map plain pieces) all → Telling next now disk told old new (map plain (pieces ++ rest)) false
  plain_cut old new pieces rest all so_far =
      subst (λ (l : List Line). Telling next now disk told old new l false) (sym (map-append plain pieces rest)) (longer next now disk told old new (map plain pieces) (map plain rest) all so_far)

  -- ---- pieces of a list, by their index

  pub one_more : (old mid new : D) (pieces : List (List ℕ)) (i : ℕ) (bytes item : List ℕ) (all : Bool) → i < length pieces → bytes ≡ item → item ≡ get_or pieces i item
      → Telling next now disk told old mid (map plain (take i pieces)) true → Stays now disk mid new → ((text : List ℕ) → bytes ≡ text → Telling next now disk told mid new (plain text ∷ []) all)
      → Telling next now disk told old new (map plain (take (i + 1) pieces)) all
  one_more old mid new pieces i bytes item all within same is so_far stays one =
      subst (λ (l : List (List ℕ)). Telling next now disk told old new (map plain l) all) (sym (take_more pieces i [] within))
      (plain_more old mid new (take i pieces) (get_or pieces i []) all so_far stays (one (get_or pieces i []) (same ∙ get_or_read pieces i item within is [])))

  pub cut_off : (old new : D) (pieces : List (List ℕ)) (i : ℕ) (all : Bool) → Telling next now disk told old new (map plain (take i pieces)) all → Telling next now disk told old new (map plain pieces) false
  cut_off old new pieces i all so_far =
      subst (λ (l : List (List ℕ)). Telling next now disk told old new (map plain l) false) (take-append-drop i pieces) (plain_cut old new (take i pieces) (drop i pieces) all so_far)

  pub all_of : (old new : D) (pieces : List (List ℕ)) (i : ℕ) (all : Bool) → length pieces ≤ i → Telling next now disk told old new (map plain (take i pieces)) all → Telling next now disk told old new (map plain pieces) all
  all_of old new pieces i all past so_far = subst (λ (l : List (List ℕ)). Telling next now disk told old new (map plain l) all) (take_all i pieces past) so_far
