-- If the headers of a range proof pass, those between the blocks are those of all versions there.
use Rattle.std.proofs.Common.{◌≡◌, ◌∙◌, ℕ, suc, true, false, ◌==◌, nat_le}
use Rattle.std.proofs.Common.{List, [], ◌∷◌, ◌++◌, map, filter, reverse, slice_get, Option, Some}
use Rattle.std.proofs.Common.{None, refl, sym, ap, subst, arith, inl, inr}
use Rattle.std.specs.List.{All, AllByRecursion, Contains}
use Rattle.std.specs.Cmp.Lexicographic.{pointwise}
use Rattle.std.proofs.lemmas.Bool.{cases_Bool, and_left, and_right, and_from, leb-true, leb-false}
use Rattle.std.proofs.lemmas.List.{reverse-append}
use Rattle.lc_base.specs.declared.row.Row.{Row}
use Rattle.lc_base.specs.History.{IsLawful, below, newest}
use Rattle.proof_codec.specs.merkle_tree.Clash.{Agree}
use Rattle.root_laws.specs.prov_entry.declared.entry.Link.{Link}
use Rattle.root_laws.specs.prov_entry.declared.entry.Header.{Header}
use Rattle.root_laws.specs.prov_entry.Spelling.{IsHeader, header_text}
use Rattle.root_laws.specs.Naming.{header_of}
use Rattle.root_laws.specs.TypedLedger.{IsTypedRow}
use Rattle.root_laws.proofs.Keys.{key_is_key}
use Rattle.proof_checks.specs.Checks.{header_fault, expected_after}
use Rattle.proof_checks.proofs.Tests.{neither}
use Rattle.proof_checks.proofs.Told.{header_told}
use Rattle.proof_checks.proofs.Onward.{begun, GoesOn, onward}
use Rattle.proof_checks.proofs.Walked.{walk_fault, header_passed, no_more}
use Rattle.root_laws.proofs.UpTo.{IsBetween, is_before, rows_up_to, none_up_to, same_above}
use Rattle.root_laws.proofs.UpTo.{same_latest, one_more, none_before, before_same, none_low}
use Rattle.proof_checks.specs.RangeChecks.{if_from, next_in_range, is_within}
use Rattle.proof_checks.proofs.Links.{is_before_row, link_before}

module _ (rows : List Row) (lawful : IsLawful rows) (are : All IsTypedRow rows) (key : List ℕ)
    (from to : ℕ) (given own : List (List ℕ)) (agree : Agree given own)
    (own_headers : (row : Row) → Contains rows row
    → Contains own (header_text (header_of rows row))) where
  abbrev kept : ℕ → List Row
  kept block = rows_up_to rows lawful key from to block

  -- The headers of the versions between the blocks up to one of them, the last one first.
  abbrev pub headers_up_to : ℕ → List Header
  headers_up_to block = map (header_of rows) (reverse (kept block))

  abbrev within : List Header → List Header
  within headers = filter (is_within from to) headers

  abbrev walk : ℕ → Option Link → List Header → Type 0
  walk step expected headers = walk_fault (next_in_range from to) key step expected headers ≡ None

  same_headers : (a b : List Row) → a ≡ b
      → map (header_of rows) (reverse a) ≡ map (header_of rows) (reverse b)
  same_headers a b e = ap (λ (rs : List Row). map (header_of rows) (reverse rs)) e

  -- The headers after that of a row pass.
  abbrev Rest : ℕ → Row → List Header → Type 0
  Rest step row headers = walk step (next_in_range from to (header_of rows row)) headers

  rest_is : (step : ℕ) (row : Row) (headers : List Header) (o : Option Link)
      → next_in_range from to (header_of rows row) ≡ o → Rest step row headers
      → walk step o headers
  rest_is step row headers o e rest =
      sym (ap (λ (x : Option Link). walk_fault (next_in_range from to) key step x headers) e) ∙ rest

  ends : (step : ℕ) (row : Row) (headers : List Header)
      → next_in_range from to (header_of rows row) ≡ None → Rest step row headers → headers ≡ []
  ends step row headers none rest =
      no_more (next_in_range from to) key step headers (rest_is step row headers None none rest)

  -- What is to be shown of headers of which the first is that of a row.
  abbrev Deeper : ℕ → List Header → Type 0
  Deeper step headers =
      (next : Row) → Contains rows next → next.key ≡ key → walk step (Some (begun rows next))
      headers
      → within headers ≡ headers_up_to next.block

  within_one : (header : Header) (headers : List Header) → is_within from to header ≡ true
      → within (header ∷ headers) ≡ header ∷ within headers
  within_one header headers t = rw t refl

  within_none : (header : Header) (headers : List Header) → is_within from to header ≡ false
      → within (header ∷ headers) ≡ within headers
  within_none header headers f = rw f refl

  -- After a row that is after the blocks.
  above : (step : ℕ) (row : Row) (headers : List Header) → Contains rows row → row.key ≡ key
      → nat_le row.block to ≡ false → Rest step row headers → Deeper step headers
      → within headers ≡ headers_up_to row.block
  above step row headers has key_is late rest deeper =
      go (subst (λ (k : List ℕ). GoesOn rows k to row) key_is (onward rows to row lawful has late))
    where
      after : next_in_range from to (header_of rows row) ≡ expected_after to (header_of rows row)
      after = rw late refl

      go : GoesOn rows key to row → within headers ≡ headers_up_to row.block
      go (inl stop) =
          ap within (ends step row headers (after ∙ stop.0) rest)
          ∙ same_headers [] (kept row.block)
          (sym (none_up_to rows lawful key from to row.block stop.1))
      go (inr (next, leads, stands, less)) =
          deeper next stands.there stands.key_is
          (rest_is step row headers (Some (begun rows next)) (after ∙ leads) rest)
          ∙ same_headers (kept next.block) (kept row.block) (elim (cases_Bool (nat_le next.block
          to)) [
            | inl low ↦ sym (same_latest rows lawful key from to row.block next
                (stands.answers low).0 less)
            | inr high ↦ sym (same_above rows lawful key from to row.block next.block
                (leb-false next.block to high) less)
          ])

  -- After a row between the blocks.
  between_blocks : (step : ℕ) (row : Row) (headers : List Header) → Contains rows row
      → row.key ≡ key → nat_le row.block to ≡ true → nat_le from row.block ≡ true
      → Rest step row headers → Deeper step headers
      → header_of rows row ∷ within headers ≡ headers_up_to row.block
  between_blocks step row headers has key_is high low rest deeper =
      go (newest (below rows row.block) row.key) refl
    where
      is : IsBetween key from to row
      is = record {
        key_is = ap (λ (k : List ℕ). pointwise ◌==◌ k key) key_is ∙ key_is_key key;
        low = leb-true from row.block low;
        high = leb-true row.block to high;
      }

      older : List Row
      older = filter (is_before key from to row.block) rows

      turned : (rs : List Row) → reverse (rs ++ row ∷ []) ≡ row ∷ reverse rs
      turned rs = reverse-append rs (row ∷ [])

      with_older : within headers ≡ map (header_of rows) (reverse older)
          → header_of rows row ∷ within headers ≡ headers_up_to row.block
      with_older e =
          ap (λ (hs : List Header). header_of rows row ∷ hs) e
          ∙ sym (same_headers (kept row.block) (older ++ row ∷ [])
          (one_more rows lawful key from to row has is)
          ∙ ap (map (header_of rows)) (turned older))

      after : (o : Option Link) → slice_get (header_of rows row).links 0 ≡ o
          → next_in_range from to (header_of rows row) ≡ if_from from o
      after o e = rw (high, low, e) refl

      stops : next_in_range from to (header_of rows row) ≡ None → older ≡ []
          → header_of rows row ∷ within headers ≡ headers_up_to row.block
      stops none empty =
          with_older (ap within (ends step row headers none rest)
          ∙ same_headers [] older (sym empty))

      of_key : (o : Option Row) → newest (below rows row.block) row.key ≡ o
          → newest (below rows row.block) key ≡ o
      of_key o e = ap (newest (below rows row.block)) (sym key_is) ∙ e

      go : (o : Option Row) → newest (below rows row.block) row.key ≡ o
          → header_of rows row ∷ within headers ≡ headers_up_to row.block
      go None e =
          stops (after None (link_before rows row None lawful e))
          (none_before rows lawful key from to row.block (of_key None e))
      go (Some version) e =
          let before = is_before_row rows row version e in
          let same : older ≡ kept version.block =
          before_same rows lawful key from to row.block version (of_key (Some version) e)
          before.less in
          let leads : next_in_range from to (header_of rows row)
          ≡ if_from from (Some (begun rows version)) =
          after (Some (begun rows version)) (link_before rows row (Some version) lawful e) in
          elim (cases_Bool (nat_le from version.block)) [
            | inl t ↦
                let on : if_from from (Some (begun rows version)) ≡ Some (begun rows version) =
                rw t refl in
                with_older (deeper version before.there (before.key_is ∙ key_is)
                (rest_is step row headers (Some (begun rows version)) (leads ∙ on) rest)
                ∙ same_headers (kept version.block) older (sym same))
            | inr f ↦
                let off : if_from from (Some (begun rows version)) ≡ None = rw f refl in
                stops (leads ∙ off)
                (same ∙ none_low rows lawful key from to version.block
                (leb-false from version.block f))
          ]

  -- After a row before the blocks.
  before_blocks : (step : ℕ) (row : Row) (headers : List Header) → nat_le row.block to ≡ true
      → nat_le from row.block ≡ false → Rest step row headers
      → within headers ≡ headers_up_to row.block
  before_blocks step row headers high low rest =
      let none : next_in_range from to (header_of rows row) ≡ None = rw (high, low) refl in
      ap within (ends step row headers none rest)
      ∙ same_headers [] (kept row.block)
      (sym (none_low rows lawful key from to row.block (leb-false from row.block low)))

  pub walked : (headers : List Header) (step : ℕ) (row : Row) → Contains rows row → row.key ≡ key
      → AllByRecursion IsHeader headers
      → ((text : List ℕ) → Contains (map header_text headers) text → Contains given text)
      → walk step (Some (begun rows row)) headers → within headers ≡ headers_up_to row.block
  walked [] step row has key_is all there e = absurd cc
  walked (header ∷ headers) step row has key_is all there e =
      let faults = neither (header_fault key step (begun rows row) header)
      (walk_fault (next_in_range from to) key (suc step) (next_in_range from to header) headers)
      e in
      let is : header ≡ header_of rows row =
      header_told rows lawful are given own agree row has header all.0
      (there (header_text header) (0, omega arith, refl)) (own_headers row has)
      (header_passed key step (begun rows row) header faults.0) in
      let rest : Rest (suc step) row headers =
      sym (ap (λ (h : Header).
      walk_fault (next_in_range from to) key (suc step) (next_in_range from to h) headers) is)
      ∙ faults.1 in
      let deeper : Deeper (suc step) headers =
      λ next next_there next_key e'. walked headers (suc step) next next_there next_key all.1
      (λ text has'. there text (suc has'.0, omega (arith, has'.1), has'.2)) e' in
      ap (λ (h : Header). within (h ∷ headers)) is ∙ elim (cases_Bool (nat_le row.block to)) [
        | inr late ↦
            within_none (header_of rows row) headers
            (and_right (nat_le from row.block) (nat_le row.block to) late)
            ∙ above (suc step) row headers has key_is late rest deeper
        | inl high ↦ elim (cases_Bool (nat_le from row.block)) [
          | inl low ↦
              within_one (header_of rows row) headers
              (and_from (nat_le from row.block) (nat_le row.block to) low high)
              ∙ between_blocks (suc step) row headers has key_is high low rest deeper
          | inr low ↦
              within_none (header_of rows row) headers
              (and_left (nat_le from row.block) (nat_le row.block to) low)
              ∙ before_blocks (suc step) row headers high low rest
        ]
      ]
