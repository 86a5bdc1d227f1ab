-- What was printed over several calls, after one call more.
use Rattle.std.proofs.Common.{◌≡◌, ℕ, ◌+◌, ◌<◌, List, [], ◌∷◌, ◌++◌, length, get_or, take, drop, Option, Some, None, Err, refl, sym, ap, ◌∙◌, inl, inr}
use Rattle.std.specs.List.{concat}
use Rattle.std.proofs.lemmas.List.{append_assoc, append-nil, take-append-drop, drop_more, map_push}
use Rattle.std.proofs.lemmas.List.Folds.{concat-append}
use Rattle.lc_io.specs.Outside.{Tell, with_tells, bytes_told, Tells, Told, ToldPrefix}

-- pieces after pieces
pub with_tells-with_tells : (old : Option (List Tell)) (a b : List Tell) → with_tells (with_tells old a) b ≡ with_tells old (a ++ b)
with_tells-with_tells None a b = refl
with_tells-with_tells (Some told) a b = ap Some (append_assoc told a b)

pub with_none : (old : Option (List Tell)) → old ≡ with_tells old []
with_none None = refl
with_none (Some told) = ap Some (sym (append-nil told))

-- nothing has been printed
pub told_nothing : (old : Option (List Tell)) → Told old old []
told_nothing old = record { tells = []; added = with_none old; whole = refl }

-- one more piece
pub told_more : (first before now : Option (List Tell)) (at : ℕ) (pieces : List (List ℕ)) (piece : List ℕ)
    → Told first before pieces → now ≡ with_tells before (record { at = at; bytes = piece } ∷ []) → Told first now (pieces ++ piece ∷ [])
told_more first before now at pieces piece so_far tells =
    let tell : Tell = record { at = at; bytes = piece } in
    record {
      tells = so_far.tells ++ tell ∷ [];
      added = tells ∙ ap (λ (o : Option (List Tell)). with_tells o (tell ∷ [])) so_far.added ∙ with_tells-with_tells first so_far.tells (tell ∷ []);
      whole = map_push (λ (t : Tell). t.bytes) so_far.tells tell ∙ ap (λ (bytes : List (List ℕ)). bytes ++ piece ∷ []) so_far.whole;
    }

-- the bytes of the first pieces are at the start of the bytes of all pieces
concat_split : (pieces : List (List ℕ)) (i : ℕ) → concat pieces ≡ concat (take i pieces) ++ concat (drop i pieces)
concat_split pieces i = ap concat (sym (take-append-drop i pieces)) ∙ concat-append (take i pieces) (drop i pieces)

-- if some first pieces were printed, a prefix of all was printed
pub told_prefix : (first now : Option (List Tell)) (pieces : List (List ℕ)) (i : ℕ) → Told first now (take i pieces) → ToldPrefix first now pieces
told_prefix first now pieces i so_far = record {
  tells = so_far.tells;
  added = so_far.added;
  prefix = (concat (drop i pieces), concat_split pieces i ∙ ap (λ (bytes : List (List ℕ)). concat bytes ++ concat (drop i pieces)) (sym so_far.whole));
}

-- after a call that failed, a prefix of all pieces was printed
pub told_less : (T : Type 0) {E : Type 0} (first before now : Option (List Tell)) (at : ℕ) (pieces : List (List ℕ)) (i : ℕ) (e : E)
    → i < length pieces → Told first before (take i pieces) → Tells {T = T} at (get_or pieces i []) before now (Err e) → ToldPrefix first now pieces
told_less T first before now at pieces i e within so_far (inl same) = told_prefix first now pieces i (record { tells = so_far.tells; added = same ∙ so_far.added; whole = so_far.whole })
told_less T first before now at pieces i e within so_far (inr cut) =
    let piece : List ℕ = get_or pieces i [] in
    let tell : Tell = record { at = at; bytes = take cut.0 piece } in
    let part = told_more first before now at (take i pieces) (take cut.0 piece) so_far cut.1 in
    let rest : List ℕ = drop cut.0 piece ++ concat (drop (i + 1) pieces) in
    let here : concat (drop i pieces) ≡ take cut.0 piece ++ rest =
    ap concat (drop_more pieces i [] within)
    ∙ ap (λ (bytes : List ℕ). bytes ++ concat (drop (i + 1) pieces)) (sym (take-append-drop cut.0 piece))
    ∙ append_assoc (take cut.0 piece) (drop cut.0 piece) (concat (drop (i + 1) pieces)) in
    let told_bytes : bytes_told part.tells ≡ concat (take i pieces) ++ take cut.0 piece =
    ap concat part.whole ∙ concat-append (take i pieces) (take cut.0 piece ∷ []) ∙ ap (λ (bytes : List ℕ). concat (take i pieces) ++ bytes) (append-nil (take cut.0 piece)) in
    record {
      tells = part.tells;
      added = part.added;
      prefix = (
        rest,
        concat_split pieces i ∙ ap (λ (bytes : List ℕ). concat (take i pieces) ++ bytes) here
            ∙ sym (append_assoc (concat (take i pieces)) (take cut.0 piece) rest) ∙ ap (λ (bytes : List ℕ). bytes ++ rest) (sym told_bytes),
      );
    }
