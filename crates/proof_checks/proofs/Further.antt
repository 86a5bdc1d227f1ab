-- The headers of a range proof that is made of a history pass: those of a lookup, and then those of
-- the further versions between the blocks.
use Rattle.std.proofs.Common.{◌≡◌, ◌∙◌, ℕ, zero, suc, ◌<◌, Bool, true, false, ◌==◌}
use Rattle.std.proofs.Common.{nat_le, List, [], ◌∷◌, ◌++◌, length, map, filter, reverse, drop}
use Rattle.std.proofs.Common.{slice_get, Option, Some, None, refl, sym, ap, ap₂, subst, arith, inl}
use Rattle.std.proofs.Common.{inr}
use Rattle.std.specs.List.{AllByRecursion, Contains}
use Rattle.std.specs.Option.{option_or}
use Rattle.std.specs.Cmp.Lexicographic.{pointwise}
use Rattle.std.proofs.lemmas.Bool.{cases_Bool, and_from, and_right, leb-true, leb-false, le-leb}
use Rattle.std.proofs.lemmas.Bool.{eq-eqb}
use Rattle.std.proofs.lemmas.Option.{none-some, same_Some}
use Rattle.std.proofs.lemmas.List.{reverse-append, append-nil}
use Rattle.std.proofs.lemmas.List.Elements.{filter-append}
use Rattle.sha2.specs.Sha256.{sha256}
use Rattle.lc_base.specs.declared.row.Row.{Row}
use Rattle.lc_base.specs.History.{IsLawful, below, newest}
use Rattle.root_laws.specs.prov_entry.declared.entry.Link.{Link}
use Rattle.root_laws.specs.prov_entry.declared.entry.Header.{Header}
use Rattle.root_laws.specs.prov_entry.Spelling.{header_text}
use Rattle.root_laws.specs.Naming.{header_of}
use Rattle.root_laws.proofs.Lists.{all_reverse}
use Rattle.root_laws.proofs.Keys.{key_is_key}
use Rattle.proof_codec.specs.Spelling.{last_of}
use Rattle.proof_checks.specs.declared.reject.Reject.{Reject}
use Rattle.proof_checks.specs.declared.reject.Reject.TheVariants as faults
use Rattle.proof_checks.specs.Checks.{header_fault, expected_after}
use Rattle.proof_checks.proofs.Tests.{neither}
use Rattle.proof_checks.proofs.Onward.{begun}
use Rattle.proof_checks.proofs.Walked.{walk_fault}
use Rattle.root_laws.specs.Ranges.{rows_between}
use Rattle.root_laws.proofs.UpTo.{IsBetween, is_before, rows_up_to, one_more, none_before}
use Rattle.root_laws.proofs.UpTo.{before_same, none_low, each_between}
use Rattle.proof_checks.specs.RangeChecks.{if_from, next_in_range, is_within}
use Rattle.proof_checks.proofs.Links.{IsBeforeRow, is_before_row, link_before}

-- ---- the headers of a lookup

-- What the headers after some headers must begin with: what follows the last of these, or what is
-- expected if there are none.
abbrev AtEnd : ℕ → ℕ → List ℕ → ℕ → Option Link → Option Header → List Header → Type 0
AtEnd from to key step expected None more =
    walk_fault (next_in_range from to) key step expected more ≡ None
AtEnd from to key step expected (Some last) more =
    (k : ℕ) → walk_fault (next_in_range from to) key k (next_in_range from to last) more ≡ None

a_last : (header : Header) (headers : List Header)
    → (last : Header) × (last_of (header ∷ headers) ≡ Some last)
a_last header [] = (header, refl)
a_last header (next ∷ headers) = a_last next headers

-- At which step the headers after them come doesn't matter.
end_on : (from to : ℕ) (key : List ℕ) (step k : ℕ) (expected o : Option Link) (next : Header)
    (headers more : List Header) → AtEnd from to key step expected (last_of (next ∷ headers)) more
    → AtEnd from to key k o (last_of (next ∷ headers)) more
end_on from to key step k expected o next headers more end =
    let last = a_last next headers in
    subst (λ (l : Option Header). AtEnd from to key k o l more) (sym last.1)
    (subst (λ (l : Option Header). AtEnd from to key step expected l more) last.1 end)

-- A header that another follows is of a block after the last one.
is_late : (to : ℕ) (key : List ℕ) (step : ℕ) (header next : Header) (headers : List Header)
    → walk_fault (expected_after to) key (suc step) (expected_after to header) (next ∷ headers)
    ≡ None → nat_le header.block to ≡ false
is_late to key step header next headers rest = elim (cases_Bool (nat_le header.block to)) [
  | inr f ↦ f
  | inl t ↦
      let none : expected_after to header ≡ None = rw t refl in
      absurd (none-some (faults.PathShape (suc step)) (sym rest
      ∙ ap (λ (o : Option Link).
      walk_fault (expected_after to) key (suc step) o (next ∷ headers)) none))
]

-- Headers that pass as those of a lookup up to the last block pass, if those after them do.
pub on_the_way : (headers more : List Header) (from to : ℕ) (key : List ℕ) (step : ℕ)
    (expected : Option Link) → walk_fault (expected_after to) key step expected headers ≡ None
    → AtEnd from to key step expected (last_of headers) more
    → walk_fault (next_in_range from to) key step expected (headers ++ more) ≡ None
on_the_way [] more from to key step expected e end = end
on_the_way (header ∷ headers) more from to key step None e end = absurd cc
on_the_way (header ∷ []) more from to key step (Some expected) e end =
    let parts = neither (header_fault key step expected header)
    (walk_fault (expected_after to) key (suc step) (expected_after to header) []) e in
    ap (λ (fault : Option Reject). option_or fault
    (walk_fault (next_in_range from to) key (suc step) (next_in_range from to header) more))
    parts.0
    ∙ end (suc step)
on_the_way (header ∷ next ∷ headers) more from to key step (Some expected) e end =
    let parts = neither (header_fault key step expected header)
    (walk_fault (expected_after to) key (suc step) (expected_after to header) (next ∷ headers)) e in
    ap (λ (fault : Option Reject). option_or fault
    (walk_fault (next_in_range from to) key (suc step) (next_in_range from to header)
    ((next ∷ headers) ++ more))) parts.0
    ∙ ap (λ (o : Option Link).
    walk_fault (next_in_range from to) key (suc step) o ((next ∷ headers) ++ more))
    (same_way (is_late to key step header next headers parts.1))
    ∙ on_the_way (next ∷ headers) more from to key (suc step) (expected_after to header) parts.1
    (end_on from to key step (suc step) (Some expected) (expected_after to header) next headers more
    end)
  where
    same_way : nat_le header.block to ≡ false
        → next_in_range from to header ≡ expected_after to header
    same_way late = rw late refl

dropped : (p : Header → Bool) (x : Header) (xs : List Header) → p x ≡ false
    → filter p (x ∷ xs) ≡ filter p xs
dropped p x xs f = rw f refl

-- On the way all but the last are after the blocks.
pub way_within : (headers : List Header) (from to : ℕ) (key : List ℕ) (step : ℕ)
    (expected : Option Link) (last : Header)
    → walk_fault (expected_after to) key step expected headers ≡ None
    → last_of headers ≡ Some last
    → filter (is_within from to) headers ≡ filter (is_within from to) (last ∷ [])
way_within [] from to key step expected last e end = absurd (none-some last end)
way_within (header ∷ headers) from to key step None last e end = absurd cc
way_within (header ∷ []) from to key step (Some expected) last e end =
    ap (λ (h : Header). filter (is_within from to) (h ∷ [])) (same_Some header last end)
way_within (header ∷ next ∷ headers) from to key step (Some expected) last e end =
    let parts = neither (header_fault key step expected header)
    (walk_fault (expected_after to) key (suc step) (expected_after to header) (next ∷ headers)) e in
    let late : nat_le header.block to ≡ false =
    is_late to key step header next headers parts.1 in
    let out : is_within from to header ≡ false =
    and_right (nat_le from header.block) (nat_le header.block to) late in
    dropped (is_within from to) header (next ∷ headers) out
    ∙ way_within (next ∷ headers) from to key (suc step) (expected_after to header) last parts.1 end

none_expected : (next : Header → Option Link) (key : List ℕ) (o : Option Link) (k : ℕ)
    → walk_fault next key k o [] ≡ None → o ≡ None
none_expected next key None k e = refl
none_expected next key (Some link) k e = absurd cc

-- Nothing follows the last.
pub way_ends : (headers : List Header) (to : ℕ) (key : List ℕ) (step : ℕ) (expected : Option Link)
    (last : Header) → walk_fault (expected_after to) key step expected headers ≡ None
    → last_of headers ≡ Some last → expected_after to last ≡ None
way_ends [] to key step expected last e end = absurd (none-some last end)
way_ends (header ∷ headers) to key step None last e end = absurd cc
way_ends (header ∷ []) to key step (Some expected) last e end =
    let parts = neither (header_fault key step expected header)
    (walk_fault (expected_after to) key (suc step) (expected_after to header) []) e in
    ap (expected_after to) (sym (same_Some header last end))
    ∙ none_expected (expected_after to) key (expected_after to header) (suc step) parts.1
way_ends (header ∷ next ∷ headers) to key step (Some expected) last e end =
    let parts = neither (header_fault key step expected header)
    (walk_fault (expected_after to) key (suc step) (expected_after to header) (next ∷ headers)) e in
    way_ends (next ∷ headers) to key (suc step) (expected_after to header) last parts.1 end

-- ---- the further versions

abbrev others_of : List Row → List Row
others_of [] = []
others_of (row ∷ others) = others

module _ (rows : List Row) (lawful : IsLawful rows) (key : List ℕ) (from to : ℕ) where
  abbrev kept : ℕ → List Row
  kept block = rows_up_to rows lawful key from to block

  abbrev fault : ℕ → Option Link → List Row → Option Reject
  fault step expected others =
      walk_fault (next_in_range from to) key step expected (map (header_of rows) others)

  own_fault : (step : ℕ) (row : Row) → row.key ≡ key
      → header_fault key step (begun rows row) (header_of rows row) ≡ None
  own_fault step row key_is =
      let digest = key_is_key (sha256 (header_text (header_of rows row))) in
      let own : pointwise ◌==◌ row.key key ≡ true =
      ap (λ (k : List ℕ). pointwise ◌==◌ k key) key_is ∙ key_is_key key in
      let block = eq-eqb row.block row.block refl in
      rw (digest, own, block) refl

  turned : (older : List Row) (row : Row) → reverse (older ++ row ∷ []) ≡ row ∷ reverse older
  turned older row = reverse-append older (row ∷ [])

  -- From a version between the blocks on, the versions before it pass.
  abbrev Deeper : List Row → ℕ → Type 0
  Deeper others step =
      (version : Row) (rest : List Row) → Contains rows version → version.key ≡ key
      → IsBetween key from to version → others ≡ version ∷ rest
      → reverse (kept version.block) ≡ version ∷ rest
      → fault (suc step) (next_in_range from to (header_of rows version)) rest ≡ None

  one_on : (others : List Row) (step : ℕ) (row : Row) → Contains rows row → row.key ≡ key
      → IsBetween key from to row → reverse (kept row.block) ≡ row ∷ others → Deeper others step
      → fault step (next_in_range from to (header_of rows row)) others ≡ None
  one_on others step row has key_is is e deeper = go (newest (below rows row.block) row.key) refl
    where
      older : List Row
      older = filter (is_before key from to row.block) rows

      rest_is : reverse older ≡ others
      rest_is =
          ap others_of (sym (ap reverse (one_more rows lawful key from to row has is)
          ∙ turned older row) ∙ e)

      leads : (o : Option Link) → slice_get (header_of rows row).links 0 ≡ o
          → next_in_range from to (header_of rows row) ≡ if_from from o
      leads o link =
          let high : nat_le row.block to ≡ true = le-leb row.block to is.high in
          let low : nat_le from row.block ≡ true = le-leb from row.block is.low in
          rw (high, low, link) refl

      stops : next_in_range from to (header_of rows row) ≡ None → older ≡ []
          → fault step (next_in_range from to (header_of rows row)) others ≡ None
      stops none empty = ap₂ (fault step) none (sym rest_is ∙ ap reverse empty)

      next : (version : Row) (rest : List Row) → Contains rows version → version.key ≡ key
          → IsBetween key from to version → others ≡ version ∷ rest
          → reverse (kept version.block) ≡ version ∷ rest
          → fault step (Some (begun rows version)) (version ∷ rest) ≡ None
      next version rest there version_key between split is_kept =
          ap (λ (found : Option Reject). option_or found
          (fault (suc step) (next_in_range from to (header_of rows version)) rest))
          (own_fault step version version_key)
          ∙ deeper version rest there version_key between split is_kept

      of_key : (o : Option Row) → newest (below rows row.block) row.key ≡ o
          → newest (below rows row.block) key ≡ o
      of_key o n = ap (newest (below rows row.block)) (sym key_is) ∙ n

      go : (o : Option Row) → newest (below rows row.block) row.key ≡ o
          → fault step (next_in_range from to (header_of rows row)) others ≡ None
      go None n =
          stops (leads None (link_before rows row None lawful n))
          (none_before rows lawful key from to row.block (of_key None n))
      go (Some version) n =
          let before : IsBeforeRow rows row version = is_before_row rows row version n in
          let same : older ≡ kept version.block =
          before_same rows lawful key from to row.block version (of_key (Some version) n)
          before.less in
          let link = leads (Some (begun rows version))
          (link_before rows row (Some version) lawful n) in
          elim (cases_Bool (nat_le from version.block)) [
            | inr f ↦
                let off : if_from from (Some (begun rows version)) ≡ None = rw f refl in
                stops (link ∙ off)
                (same ∙ none_low rows lawful key from to version.block
                (leb-false from version.block f))
            | inl t ↦
                let on : if_from from (Some (begun rows version)) ≡ Some (begun rows version) =
                rw t refl in
                let low = before.less in
                let high = is.high in
                let between : IsBetween key from to version = record {
                  key_is =
                      ap (λ (k : List ℕ). pointwise ◌==◌ k key) (before.key_is ∙ key_is)
                      ∙ key_is_key key;
                  low = leb-true from version.block t;
                  high = omega (arith, low, high);
                } in
                let rest : List Row =
                reverse (filter (is_before key from to version.block) rows) in
                let split : others ≡ version ∷ rest =
                sym rest_is
                ∙ ap reverse
                (same ∙ one_more rows lawful key from to version before.there between)
                ∙ turned (filter (is_before key from to version.block) rows) version in
                ap₂ (fault step) (link ∙ on) split
                ∙ next version rest before.there (before.key_is ∙ key_is) between split
                (sym (ap reverse same) ∙ rest_is ∙ split)
          ]

  pub further : (n : ℕ) (others : List Row) (step : ℕ) (row : Row) → Contains rows row
      → row.key ≡ key → IsBetween key from to row → reverse (kept row.block) ≡ row ∷ others
      → length others < n
      → fault step (next_in_range from to (header_of rows row)) others ≡ None
  further zero others step row has key_is is e few = absurd (omega (arith, few))
  further (suc n) others step row has key_is is e few =
      one_on others step row has key_is is e
      (λ version rest there version_key between split is_kept.
      further n rest (suc step) version there version_key between is_kept
      (omega (arith, few, ap length split)))

  all_within : (rs : List Row) → AllByRecursion (IsBetween key from to) rs
      → filter (is_within from to) (map (header_of rows) rs) ≡ map (header_of rows) rs
  all_within [] all = refl
  all_within (row ∷ rs) all =
      let t : is_within from to (header_of rows row) ≡ true =
      and_from (nat_le from row.block) (nat_le row.block to) (le-leb from row.block all.0.low)
      (le-leb row.block to all.0.high) in
      rw t (ap (λ (hs : List Header). header_of rows row ∷ hs) (all_within rs all.1))

-- ---- all headers

module _ (rows : List Row) (lawful : IsLawful rows) (key : List ℕ) (from to : ℕ)
    (expected : Option Link) (headers : List Header)
    (walks : walk_fault (expected_after to) key 0 expected headers ≡ None) where
  -- The versions between the blocks, the last one first.
  abbrev back : List Row
  back = reverse (rows_between rows key from to)

  abbrev more : List Header
  more = map (header_of rows) (drop 1 back)

  -- They pass, and those between the blocks are those of the versions there.
  pub record HeadersPass : Type 0 where
    pub no_fault : walk_fault (next_in_range from to) key 0 expected (headers ++ more) ≡ None
    pub within : filter (is_within from to) (headers ++ more) ≡ map (header_of rows) back

  none_more : rows_between rows key from to ≡ [] → more ≡ []
  none_more e = ap (λ (rs : List Row). map (header_of rows) (drop 1 (reverse rs))) e

  none_back : rows_between rows key from to ≡ [] → [] ≡ map (header_of rows) back
  none_back e = sym (ap (λ (rs : List Row). map (header_of rows) (reverse rs)) e)

  -- There are no headers, and no version is between the blocks.
  pub by_nothing : headers ≡ [] → rows_between rows key from to ≡ [] → HeadersPass
  by_nothing nil none = record {
    no_fault =
        ap₂ (λ (hs ms : List Header).
        walk_fault (next_in_range from to) key 0 expected (hs ++ ms)) nil (none_more none)
        ∙ no_link expected (ap (walk_fault (expected_after to) key 0 expected) (sym nil) ∙ walks);
    within =
        ap₂ (λ (hs ms : List Header). filter (is_within from to) (hs ++ ms)) nil (none_more none)
        ∙ none_back none;
  }
    where
      no_link : (o : Option Link) → walk_fault (expected_after to) key 0 o [] ≡ None
          → walk_fault (next_in_range from to) key 0 o [] ≡ None
      no_link None e = refl
      no_link (Some link) e = absurd cc

  -- The last header isn't between the blocks, nothing follows, and no version is there.
  pub by_last : (last : Header) → last_of headers ≡ Some last → is_within from to last ≡ false
      → next_in_range from to last ≡ None → rows_between rows key from to ≡ [] → HeadersPass
  by_last last last_is out none empty = record {
    no_fault =
        on_the_way headers more from to key 0 expected walks
        (subst (λ (o : Option Header). AtEnd from to key 0 expected o more) (sym last_is)
        (λ k. ap₂ (λ (o : Option Link) (ms : List Header).
        walk_fault (next_in_range from to) key k o ms) none (none_more empty)));
    within =
        ap (λ (ms : List Header). filter (is_within from to) (headers ++ ms)) (none_more empty)
        ∙ ap (filter (is_within from to)) (append-nil headers)
        ∙ way_within headers from to key 0 expected last walks last_is
        ∙ dropped (is_within from to) last [] out ∙ none_back empty;
  }

  -- The last header is that of the last version between the blocks.
  pub by_row : (row : Row) → Contains rows row → row.key ≡ key
      → last_of headers ≡ Some (header_of rows row) → IsBetween key from to row
      → rows_between rows key from to ≡ rows_up_to rows lawful key from to row.block → HeadersPass
  by_row row has key_is last_is is all =
      let older : List Row = filter (is_before key from to row.block) rows in
      let split : reverse (rows_up_to rows lawful key from to row.block) ≡ row ∷ reverse older =
      ap reverse (one_more rows lawful key from to row has is)
      ∙ reverse-append older (row ∷ []) in
      let back_is : back ≡ row ∷ reverse older = ap reverse all ∙ split in
      let more_is : more ≡ map (header_of rows) (reverse older) =
      ap (λ (rs : List Row). map (header_of rows) (drop 1 rs)) back_is in
      let each : AllByRecursion (IsBetween key from to) (row ∷ reverse older) =
      subst (λ (rs : List Row). AllByRecursion (IsBetween key from to) rs) back_is
      (all_reverse (IsBetween key from to) (rows_between rows key from to)
      (each_between rows lawful key from to)) in
      record {
        no_fault =
            on_the_way headers more from to key 0 expected walks
            (subst (λ (o : Option Header). AtEnd from to key 0 expected o more) (sym last_is)
            (λ k. ap (walk_fault (next_in_range from to) key k
            (next_in_range from to (header_of rows row))) more_is
            ∙ further rows lawful key from to (suc (length (reverse older))) (reverse older) k row
            has key_is is split (omega arith)));
        within =
            filter-append (is_within from to) headers more
            ∙ ap₂ (λ (hs ms : List Header). hs ++ ms)
            (way_within headers from to key 0 expected (header_of rows row) walks last_is
            ∙ all_within rows lawful key from to (row ∷ []) (is, tt))
            (ap (filter (is_within from to)) more_is
            ∙ all_within rows lawful key from to (reverse older) each.1)
            ∙ sym (ap (map (header_of rows)) back_is);
      }
