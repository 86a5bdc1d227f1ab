-- A walk over headers that has no fault ends at the latest version, or at one that is too late if
-- none answers.
use Rattle.std.proofs.Common.{◌≡◌, ◌∙◌, ◌⊎◌, ℕ, zero, suc, ◌+◌, true, false, ◌==◌, nat_le, List, []}
use Rattle.std.proofs.Common.{◌∷◌, length, map, slice_get, Option, Some, None, refl, sym, ap, subst}
use Rattle.std.proofs.Common.{arith, inl, inr}
use Rattle.std.specs.List.{All, AllByRecursion, Contains, range_with_len}
use Rattle.std.specs.Option.{option_or, option_and_then}
use Rattle.std.specs.Cmp.Lexicographic.{pointwise}
use Rattle.std.proofs.lemmas.Bool.{cases_Bool}
use Rattle.std.proofs.lemmas.Option.{none-some}
use Rattle.sha2.specs.Sha256.{sha256}
use Rattle.lc_base.specs.declared.row.Row.{Row}
use Rattle.lc_base.specs.History.{IsLawful, latest, uses}
use Rattle.root_laws.specs.prov_entry.declared.entry.Link.{Link}
use Rattle.proof_codec.specs.declared.proof.Proof.{Proof}
use Rattle.proof_codec.specs.merkle_tree.Clash.{Agree}
use Rattle.proof_codec.specs.merkle_tree.Levels.{digest_of}
use Rattle.root_laws.specs.prov_entry.declared.entry.Header.{Header}
use Rattle.root_laws.specs.prov_entry.Spelling.{IsHeader, header_text}
use Rattle.root_laws.specs.Naming.{header_of}
use Rattle.root_laws.specs.WalkLaws.{text_of_row, header_texts}
use Rattle.root_laws.proofs.Keys.{same_key}
use Rattle.proof_codec.specs.Spelling.{last_of}
use Rattle.proof_checks.specs.declared.claim.Claim.{Claim}
use Rattle.proof_checks.specs.declared.reject.Reject.{Reject}
use Rattle.proof_checks.specs.declared.reject.Reject.TheVariants as rejects
use Rattle.root_laws.specs.TypedLedger.{IsTypedRow}
use Rattle.proof_checks.specs.Checks.{claim_of_header, claim_before, first_fault, header_fault}
use Rattle.proof_checks.specs.Checks.{fault_of_step, step_fault, headers_fault, path_fault}
use Rattle.proof_checks.specs.Checks.{expected_at, expected_first, expected_after}
use Rattle.proof_checks.proofs.Tests.{neither}
use Rattle.proof_checks.proofs.Parts.{in_map}
use Rattle.proof_checks.proofs.Told.{header_told}
use Rattle.proof_checks.proofs.Onward.{begun, claim_of_uses, StandsAt, GoesOn, onward}

-- ---- the first fault, from header to header

-- The first fault of the headers from this step on, with `expected` at the step itself.
abbrev pub walk_fault : (Header → Option Link) → List ℕ → ℕ → Option Link → List Header
    → Option Reject
walk_fault next key step expected [] = fault_of_step key step expected None
walk_fault next key step expected (header ∷ headers) = option_or (fault_of_step key step expected (Some header)) (walk_fault next key (suc step) (next header) headers)

abbrev fault_from : (Header → Option Link) → List ℕ → ℕ → Option Link → List Header → ℕ
    → Option Reject
fault_from next key step first headers i =
    fault_of_step key (step + i) (expected_at next first headers i) (slice_get headers i)

shifted : {A : Type 0} (f : ℕ → A) (a n : ℕ)
    → map f (range_with_len (suc a) n) ≡ map (λ i. f (suc i)) (range_with_len a n)
shifted f a zero = refl
shifted {A = A} f a (suc n) =
    let e : a + 1 ≡ suc a = omega arith in
    let e' : suc a + 1 ≡ suc (suc a) = omega arith in
    ap (λ (t : List A). f (suc a) ∷ t) (ap (λ (k : ℕ). map f (range_with_len k n)) e' ∙ shifted f (suc a) n ∙ ap (λ (k : ℕ). map (λ i. f (suc i)) (range_with_len k n)) (sym e))

map_same : {A : Type 0} (f g : ℕ → A) (xs : List ℕ) → ((i : ℕ) → f i ≡ g i) → map f xs ≡ map g xs
map_same f g [] h = refl
map_same f g (x ∷ xs) h = let rest = map_same f g xs h in rw (h x, rest) refl

or_none : (fault : Option Reject) → option_or fault None ≡ fault
or_none None = refl
or_none (Some fault) = refl

walk_is : (headers : List Header) (next : Header → Option Link) (key : List ℕ) (step : ℕ) (first : Option Link)
    → first_fault (map (fault_from next key step first headers) (range_with_len 0 (length headers + 1))) ≡ walk_fault next key step first headers
walk_is [] next key step first = let e : step + 0 ≡ step = omega arith in or_none (fault_of_step key (step + 0) first None) ∙ ap (λ (s : ℕ). fault_of_step key s first None) e
walk_is (header ∷ headers) next key step first =
    let n : length (header ∷ headers) + 1 ≡ suc (length headers + 1) = omega arith in
    let here : step + 0 ≡ step = omega arith in
    let f : ℕ → Option Reject = fault_from next key step first (header ∷ headers) in
    let g : ℕ → Option Reject = fault_from next key (suc step) (next header) headers in
    let each : (i : ℕ) → f (suc i) ≡ g i = λ i. same i in
    ap (λ (k : ℕ). first_fault (map f (range_with_len 0 k))) n
    ∙ ap (λ (s : ℕ). option_or (fault_of_step key s first (Some header)) (first_fault (map f (range_with_len 1 (length headers + 1))))) here
    ∙ ap (λ (t : List (Option Reject)). option_or (fault_of_step key step first (Some header)) (first_fault t)) (shifted f 0 (length headers + 1) ∙ map_same (λ i. f (suc i)) g (range_with_len 0 (length headers + 1)) each)
    ∙ ap (λ (o : Option Reject). option_or (fault_of_step key step first (Some header)) o) (walk_is headers next key (suc step) (next header))
  where
    same : (i : ℕ)
        → fault_from next key step first (header ∷ headers) (suc i) ≡ fault_from next key (suc step) (next header) headers i
    same zero = let e : step + 1 ≡ suc step + 0 = omega arith in ap (λ (s : ℕ). fault_of_step key s (next header) (slice_get headers 0)) e
    same (suc i) = let e : step + suc (suc i) ≡ suc step + suc i = omega arith in ap (λ (s : ℕ). fault_of_step key s (option_and_then next (slice_get headers i)) (slice_get headers (suc i))) e

-- The first fault of the steps is the fault of this walk, whatever finds the next version.
pub headers_walked : (next : Header → Option Link) (key : List ℕ) (first : Option Link) (headers : List Header)
    → headers_fault next key first headers ≡ walk_fault next key 0 first headers
headers_walked next key first headers =
    ap first_fault (map_same (step_fault next key first headers) (fault_from next key 0 first headers) (range_with_len 0 (length headers + 1)) same_step)
    ∙ walk_is headers next key 0 first
  where
    same_step : (i : ℕ)
        → step_fault next key first headers i ≡ fault_from next key 0 first headers i
    same_step zero = refl
    same_step (suc i) =
        let e : suc i ≡ 0 + suc i = omega arith in
        ap (λ (step : ℕ). fault_of_step key step (option_and_then next (slice_get headers i)) (slice_get headers (suc i))) e

pub path_is : (proof : Proof)
    → path_fault proof ≡ walk_fault (expected_after proof.query.at) proof.query.key 0 (expected_first proof.query.key proof.leaf_proof.leaf) proof.headers
path_is proof = headers_walked (expected_after proof.query.at) proof.query.key (expected_first proof.query.key proof.leaf_proof.leaf) proof.headers

-- ---- without a fault

pub header_passed : (key : List ℕ) (step : ℕ) (expected : Link) (header : Header)
    → header_fault key step expected header ≡ None → sha256 (header_text header) ≡ expected.digest.0
header_passed key step expected header e = elim (cases_Bool (pointwise ◌==◌ (sha256 (header_text header)) expected.digest.0)) [
  | inl t ↦ same_key (sha256 (header_text header)) expected.digest.0 t
  | inr f ↦ absurd (let no : Some (rejects.LinkDiffers step (digest_of (header_text header))) ≡ None = rw f at e in none-some _ (sym no))
]

pub no_more : (next : Header → Option Link) (key : List ℕ) (step : ℕ) (headers : List Header)
    → walk_fault next key step None headers ≡ None → headers ≡ []
no_more next key step [] e = refl
no_more next key step (header ∷ headers) e = absurd cc

-- The last header is that of the latest version, whose uses the claim is of; or no version answers,
-- and the last header's block is too late.
pub record Ends (rows : List Row) (key : List ℕ) (at : ℕ) (claim : Claim) (headers : List Header) : Type 0 where
  pub last : Header
  pub last_is : last_of headers ≡ Some last
  pub how : ((latest rows key at ≡ None) × (nat_le last.block at ≡ false))
      ⊎ ((row : Row) × Contains rows row × (latest rows key at ≡ Some row) × (last ≡ header_of rows row) × (nat_le row.block at ≡ true) × (claim_before claim headers ≡ claim_of_uses (uses rows key row.block)))

pub one_before : (rows : List Row) (key : List ℕ) (at : ℕ) (claim : Claim) (header : Header) (headers : List Header)
    → Ends rows key at (claim_of_header header) headers → Ends rows key at claim (header ∷ headers)
one_before rows key at claim header [] ends = absurd (none-some ends.last ends.last_is)
one_before rows key at claim header (next ∷ headers) ends = record { last = ends.last; last_is = ends.last_is; how = ends.how }

abbrev single : Header → List Header → List Header
single header headers = header ∷ headers

pub ends : (headers : List Header) (rows : List Row) (key : List ℕ) (at step : ℕ) (claim : Claim) (row : Row) → IsLawful rows → All IsTypedRow rows → Agree (map header_text headers) (header_texts rows) → AllByRecursion IsHeader headers
    → StandsAt rows key at claim row → walk_fault (expected_after at) key step (Some (begun rows row)) headers ≡ None → Ends rows key at claim headers
ends [] rows key at step claim row lawful are agree all stands e = absurd cc
ends (header ∷ headers) rows key at step claim row lawful are agree all stands e =
    let faults = neither (header_fault key step (begun rows row) header) (walk_fault (expected_after at) key (suc step) (expected_after at header) headers) e in
    let is : header ≡ header_of rows row =
    header_told rows lawful are (map header_text (header ∷ headers)) (header_texts rows) agree row stands.there header all.0 (0, omega arith, refl) (in_map (text_of_row rows) rows row stands.there) (header_passed key step (begun rows row) header faults.0) in
    let rest : walk_fault (expected_after at) key (suc step) (expected_after at (header_of rows row)) headers ≡ None = sym (ap (λ (h : Header). walk_fault (expected_after at) key (suc step) (expected_after at h) headers) is) ∙ faults.1 in
    let agree_rest : Agree (map header_text headers) (header_texts rows) = record { same = λ one other in_given in_own. agree.same one other (suc in_given.0, omega (arith, in_given.1), in_given.2) in_own } in
    elim (cases_Bool (nat_le row.block at)) [
      | inl t ↦
          let none : expected_after at (header_of rows row) ≡ None = rw t refl in
          let nil : headers ≡ [] = no_more (expected_after at) key (suc step) headers (sym (ap (λ (o : Option Link). walk_fault (expected_after at) key (suc step) o headers) none) ∙ rest) in
          let answers = stands.answers t in
          subst (λ (hs : List Header). Ends rows key at claim (single header hs)) (sym nil)
          (record { last = header; last_is = refl; how = inr (row, stands.there, answers.0, is, t, answers.1) })
      | inr f ↦
          let goes : GoesOn rows key at row = subst (λ (k : List ℕ). GoesOn rows k at row) stands.key_is (onward rows at row lawful stands.there f) in
          elim goes [
            | inl stop ↦
                let nil : headers ≡ [] = no_more (expected_after at) key (suc step) headers (sym (ap (λ (o : Option Link). walk_fault (expected_after at) key (suc step) o headers) stop.0) ∙ rest) in
                subst (λ (hs : List Header). Ends rows key at claim (single header hs)) (sym nil)
                (record { last = header; last_is = refl; how = inl (stop.1, ap (λ (h : Header). nat_le h.block at) is ∙ f) })
            | inr next ↦
                one_before rows key at claim header headers
                (ends headers rows key at (suc step) (claim_of_header header) next.0 lawful are agree_rest all.1
                (subst (λ (h : Header). StandsAt rows key at (claim_of_header h) next.0) (sym is) next.2)
                (sym (ap (λ (o : Option Link). walk_fault (expected_after at) key (suc step) o headers) next.1) ∙ rest))
          ]
    ]
