-- Look-ups made one after another: their counts add up.
use Rattle.std.proofs.Common.{◌≡◌, ◌∙◌, ℕ, ◌+◌, ◌-◌, ◌*◌, ◌^◌, ◌<◌, ◌≤◌, max, Bool, true, List, []}
use Rattle.std.proofs.Common.{◌∷◌, ◌++◌}
use Rattle.std.proofs.Common.{length, map, refl, sym, ap, arith}
use Rattle.std.specs.List.{sum}
use Rattle.std.proofs.lemmas.List.{map_push}
use Rattle.std.proofs.lemmas.List.Sums.{sum_by_push}
use native.Mathlib.Numerals.{unary_clauses}
use Rattle.lc_base.specs.declared.row.Row.{Row}
use Rattle.chain_pack.specs.Draws.{draw_list}
use Rattle.chain_pack.specs.Generator.{Progress, standing_at}
use Rattle.lc_base.specs.declared.limits.TheConstants.{MAX_TEXT_BYTES}
use Rattle.chain_load.specs.Lookups.{Lookup, lookup_drawn, lookups_drawn, looked_at, bytes_found}
use Rattle.chain_load.specs.Lookups.{greatest}
use Rattle.chain_load.specs.Lookups.{lookup_counts}
use Rattle.chain_load.specs.declared.looking.LookupCount.{LookupCount}
use Rattle.chain_load.specs.declared.looking.LookupCounts.{LookupCounts}
use Rattle.chain_load.proofs.Lengths.{path_few}

-- ---- one more number

sum_more : (numbers : List ℕ) (number : ℕ) → sum (numbers ++ number ∷ []) ≡ sum numbers + number
sum_more numbers number = sum_by_push (λ (n : ℕ). n) numbers number

greatest_more : (numbers : List ℕ) (number : ℕ)
    → greatest (numbers ++ number ∷ []) ≡ max (greatest numbers) number
greatest_more [] number = omega arith
greatest_more (first ∷ numbers) number = omega (arith, greatest_more numbers number)

pub counted_more : (numbers : List ℕ) (number bytes : ℕ)
    → lookup_counts (numbers ++ number ∷ []) bytes ≡ record
    { entries = sum numbers + number; most = max (greatest numbers) number; value_bytes = bytes }
counted_more numbers number bytes =
    ap (λ (n : ℕ). let looked : LookupCounts = record
    { entries = n; most = greatest (numbers ++ number ∷ []); value_bytes = bytes } in looked)
    (sum_more numbers number)
    ∙ ap (λ (n : ℕ). let looked : LookupCounts = record
    { entries = sum numbers + number; most = n; value_bytes = bytes } in
    looked) (greatest_more numbers number)

-- ---- one more look-up

drawn_more : (blocks count state : ℕ)
    → draw_list (lookup_drawn blocks) (count + 1) state ≡
    (let before = draw_list (lookup_drawn blocks) count state in let last = lookup_drawn blocks
    before.1 in (before.0 ++ last.0 ∷ [], last.1))
unfolding draw_list
drawn_more blocks count state = simp unary_clauses refl

pub count_few : (rows : List Row) (lookup : Lookup) (count : ℕ) → length rows < 2 ^ 32
    → count ≡ looked_at rows lookup → count < 2 ^ 32
count_few rows lookup count few is = let short = path_few rows lookup.key lookup.at few in omega
    (arith, short, is)

-- `made` look-ups were drawn from a state, made, and counted: none looked at more than `most`
-- versions; and if it is known what they find, the bytes of the values are counted right.
pub record IsLooking (known : Bool) (rows : List Row) (most blocks state made : ℕ)
    (generator : Progress) (looked : LookupCounts) : Type 0 where
  pub state_is : generator.state ≡ (draw_list (lookup_drawn blocks) made state).1
  pub looked_is : looked ≡ lookup_counts (map (looked_at rows) (lookups_drawn blocks made state))
      looked.value_bytes
  pub bytes_are : known ≡ true → looked.value_bytes ≡ sum
      (map (bytes_found rows) (lookups_drawn blocks made state))
  pub few : looked.entries ≤ (2 ^ 32 - 1) * made
  pub few_most : looked.most ≤ most
  pub few_bytes : looked.value_bytes ≤ MAX_TEXT_BYTES * made

-- One look-up that was drawn from a state, and counted.
pub record IsCounted (known : Bool) (rows : List Row) (most blocks state : ℕ) (one : LookupCount) :
    Type 0 where
  pub entries_are : one.entries ≡ looked_at rows (lookup_drawn blocks state).0
  pub few : one.entries ≤ most
  pub bytes_are : known ≡ true → one.value_bytes ≡ bytes_found rows (lookup_drawn blocks state).0
  pub few_bytes : one.value_bytes ≤ MAX_TEXT_BYTES

pub begins : (known : Bool) (rows : List Row) (most blocks : ℕ) (generator : Progress)
    → IsLooking known rows most blocks generator.state 0 generator
    (record { entries = 0; most = 0; value_bytes = 0 })
unfolding draw_list
begins known rows most blocks generator = record {
  state_is = refl;
  looked_is = refl;
  bytes_are = λ told. refl;
  few = omega arith;
  few_most = omega arith;
  few_bytes = omega arith;
}

pub goes_on : (known : Bool) (rows : List Row) (most blocks state made : ℕ) (one : LookupCount)
    (generator after : Progress) (looked more : LookupCounts)
    → IsLooking known rows most blocks state made generator looked
    → length rows < 2 ^ 32
    → IsCounted known rows most blocks generator.state one
    → after ≡ standing_at (lookup_drawn blocks generator.state).1 generator
    → more ≡ record {
      entries = looked.entries + one.entries;
      most = max looked.most one.entries;
      value_bytes = looked.value_bytes + one.value_bytes;
    }
    → IsLooking known rows most blocks state (made + 1) after more
goes_on known rows most blocks state made one generator after looked more so_far few_rows counted
    after_is more_is =
    let before = draw_list (lookup_drawn blocks) made state in
    let last = lookup_drawn blocks before.1 in
    let count : ℕ = one.entries in
    let bytes : ℕ = looked.value_bytes + one.value_bytes in
    let drawn : lookup_drawn blocks generator.state ≡ last = ap (lookup_drawn blocks)
    so_far.state_is in
    let entries : looked.entries ≡ sum (map (looked_at rows) before.0) = ap
    (λ (l : LookupCounts). l.entries) so_far.looked_is in
    let most_is : looked.most ≡ greatest (map (looked_at rows) before.0) = ap
    (λ (l : LookupCounts). l.most) so_far.looked_is in
    let count_last : count ≡ looked_at rows last.0 = counted.entries_are
    ∙ ap (λ d. looked_at rows d.0) drawn in
    let counts : map (looked_at rows) (lookups_drawn blocks (made + 1) state) ≡ map (looked_at rows)
    before.0 ++ count ∷ [] =
    ap (λ d. map (looked_at rows) d.0) (drawn_more blocks made state)
    ∙ map_push (looked_at rows) before.0 last.0
    ∙ ap (λ (n : ℕ). map (looked_at rows) before.0 ++ n ∷ []) (sym count_last) in
    let found : map (bytes_found rows) (lookups_drawn blocks (made + 1) state) ≡ map
    (bytes_found rows) before.0 ++ bytes_found rows last.0 ∷ [] =
    ap (λ d. map (bytes_found rows) d.0) (drawn_more blocks made state)
    ∙ map_push (bytes_found rows) before.0 last.0 in
    let more_entries : more.entries ≡ looked.entries + count = ap (λ (l : LookupCounts). l.entries)
    more_is in
    let more_most : more.most ≡ max looked.most count = ap (λ (l : LookupCounts). l.most)
    more_is in
    let more_bytes : more.value_bytes ≡ bytes = ap (λ (l : LookupCounts). l.value_bytes) more_is in
    let fits = count_few rows (lookup_drawn blocks generator.state).0 count few_rows
    counted.entries_are in
    record {
      state_is = ap (λ (p : Progress). p.state) after_is ∙ ap (λ d. d.1) drawn
          ∙ sym (ap (λ d. d.1) (drawn_more blocks made state));
      looked_is = more_is
          ∙ ap (λ (n : ℕ). let l : LookupCounts = record
          { entries = n + count; most = max looked.most count; value_bytes = bytes } in l) entries
          ∙ ap (λ (n : ℕ). let l : LookupCounts = record {
            entries = sum (map (looked_at rows) before.0) + count;
            most = max n count;
            value_bytes =
                bytes;
          } in l) most_is
          ∙ sym (counted_more (map (looked_at rows) before.0) count bytes)
          ∙ sym (ap (λ (numbers : List ℕ). lookup_counts numbers bytes) counts)
          ∙ ap (lookup_counts (map (looked_at rows) (lookups_drawn blocks (made + 1) state)))
          (sym more_bytes);
      bytes_are = λ told.
          let last_bytes : one.value_bytes ≡ bytes_found rows last.0 = counted.bytes_are told
          ∙ ap (λ d. bytes_found rows d.0) drawn in
          more_bytes
          ∙ ap (λ (n : ℕ). n + one.value_bytes) (so_far.bytes_are told)
          ∙ ap (λ (n : ℕ). sum (map (bytes_found rows) before.0) + n) last_bytes
          ∙ sym (sum_more (map (bytes_found rows) before.0) (bytes_found rows last.0))
          ∙ sym (ap sum found);
      few = omega (arith, so_far.few, fits, more_entries);
      few_most = omega (arith, so_far.few_most, counted.few, more_most);
      few_bytes = omega (arith, so_far.few_bytes, counted.few_bytes, more_bytes);
    }
