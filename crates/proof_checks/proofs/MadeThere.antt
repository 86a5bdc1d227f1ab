-- Some leaf covers each key, so there is a proof for each query of a key.
use Rattle.std.proofs.Common.{◌≡◌, ◌∙◌, ◌⊎◌, ℕ, suc, ◌<◌, Bool, true, false, ◌&&◌, ◌||◌, List, []}
use Rattle.std.proofs.Common.{◌∷◌, length, map, Option, Some, None, refl, sym, ap, arith, inl, inr}
use Rattle.std.specs.List.{AllByRecursion, Contains, position_or_len}
use Rattle.std.proofs.lemmas.Bool.{cases_Bool, cases_lt}
use Rattle.std.proofs.lemmas.Option.{slice_get-get_or}
use Rattle.std.proofs.lemmas.List.{length-map, get_or-map}
use Rattle.std.proofs.lemmas.List.Sums.{fails_before_first, passes_at_first}
use Rattle.lc_base.specs.declared.row.Row.{Row}
use Rattle.lc_base.specs.declared.answer.Query.{Query}
use Rattle.lc_base.specs.History.{up_to, scan}
use Rattle.proof_codec.specs.merkle_tree.Tree.{audit_path}
use Rattle.proof_codec.specs.merkle_tree.Climbing.{bytes_of}
use Rattle.root_laws.specs.prov_entry.declared.entry.Leaf.{Leaf}
use Rattle.root_laws.specs.prov_entry.Spelling.{key_or_empty}
use Rattle.root_laws.specs.KeyLaws.{IsNext}
use Rattle.root_laws.specs.Root.{keys_of, is_below, next_key, sentinel, leaf_of, leaves, digest_at}
use Rattle.root_laws.specs.Root.{root_of}
use Rattle.root_laws.proofs.Lists.{all_weaker, contained, not_both, or_true}
use Rattle.root_laws.proofs.Keys.{key_is_key}
use Rattle.root_laws.proofs.NextKeys.{next_is, order, below_trans, not_itself}
use Rattle.proof_codec.specs.declared.proof.Proof.{Proof}
use Rattle.proof_codec.specs.entry_views.Reading.{digest_of_bytes}
use Rattle.proof_checks.specs.Checks.{is_of_key, is_before_next, covers, verdict}
use Rattle.proof_checks.specs.LedgerTexts.{texts_of_leaves}
use Rattle.proof_checks.specs.Making.{covering_index, made_of, made_proof, IsMade, MadeProofIsMade}
use Rattle.proof_checks.specs.Making.{MadeProofIsAccepted, IsMadeLeaf, made_leaf}
use Rattle.proof_checks.proofs.MadeAccepted.{given, made_is_accepted}
use Rattle.proof_checks.proofs.MadeLawful.{made_is_proof}

-- ---- the greatest key up to one

none_below : (key : List ℕ) → is_below key [] ≡ false
none_below [] = refl
none_below (byte ∷ key) = refl

-- `low` is the greatest of the keys that aren't above `key`, or the empty string if all of them
-- are.
record IsGreatest (keys : List (List ℕ)) (key low : List ℕ) : Type 0 where
  there : (low ≡ []) ⊎ Contains keys low
  not_above : is_below key low ≡ false
  greatest : AllByRecursion (λ (other : List ℕ). is_below low other ≡ true → is_below key other ≡ true) keys

after_first : (first : List ℕ) (keys : List (List ℕ)) (low : List ℕ)
    → (low ≡ []) ⊎ Contains keys low → (low ≡ []) ⊎ Contains (first ∷ keys) low
after_first first keys low (inl none) = inl none
after_first first keys low (inr has) = inr (suc has.0, omega (arith, has.1), has.2)

greatest_is : (keys : List (List ℕ)) (key : List ℕ) → (low : List ℕ) × IsGreatest keys key low
greatest_is [] key = ([], record { there = inl refl; not_above = none_below key; greatest = tt })
greatest_is (first ∷ keys) key = with_first (greatest_is keys key)
  where
    with_first : ((low : List ℕ) × IsGreatest keys key low)
        → (low : List ℕ) × IsGreatest (first ∷ keys) key low
    with_first (low, is) = elim (cases_Bool (is_below key first)) [
      | inl above ↦ (low, record { there = after_first first keys low is.there; not_above = is.not_above; greatest = ((λ less. above), is.greatest) })
      | inr up_to ↦ elim (cases_Bool (is_below low first)) [
        | inr f ↦ (low, record { there = after_first first keys low is.there; not_above = is.not_above; greatest = ((λ less. absurd (not_both (is_below low first) less f)), is.greatest) })
        | inl greater ↦ (
          first,
          record {
            there = inr (0, omega arith, refl);
            not_above = up_to;
            greatest = (
              (λ less. absurd (not_both (is_below first first) less (not_itself first))),
              all_weaker (λ (other : List ℕ). is_below low other ≡ true → is_below key other ≡ true) (λ (other : List ℕ). is_below first other ≡ true → is_below key other ≡ true)
                  (λ other above less. above (below_trans low first other greater less)) keys is.greatest,
            );
          },
        )
      ]
    ]

-- ---- a leaf that covers

before_next : (keys : List (List ℕ)) (key low : List ℕ) (next : Option (List ℕ)) → IsNext keys low next
    → AllByRecursion (λ (other : List ℕ). is_below low other ≡ true → is_below key other ≡ true) keys → is_before_next key next ≡ true
before_next keys key low None is above = refl
before_next keys key low (Some next) is above = contained (λ (other : List ℕ). is_below low other ≡ true → is_below key other ≡ true) keys next above is.0 is.1

own_key : (key : List ℕ) (own : Option (List ℕ)) → 0 < length key → key_or_empty own ≡ key
    → is_of_key key own ≡ true
own_key key None some e = absurd (omega (arith, some, ap (λ (k : List ℕ). length k) e))
own_key key (Some own) some e = rw e (key_is_key key)

covers_by : (of_key below before : Bool) → (of_key ≡ true) ⊎ ((below ≡ true) × (before ≡ true))
    → (of_key || (below && before)) ≡ true
covers_by of_key below before (inl own) = rw own refl
covers_by of_key below before (inr between) = rw (between.0, between.1) (or_true of_key)

-- A leaf covers a key if its own key is the greatest one that isn't above it.
pub leaf_covers : (keys : List (List ℕ)) (key : List ℕ) (leaf : Leaf) → 0 < length key → leaf.next ≡ next_key keys (key_or_empty leaf.key) → is_below key (key_or_empty leaf.key) ≡ false
    → AllByRecursion (λ (other : List ℕ). is_below (key_or_empty leaf.key) other ≡ true → is_below key other ≡ true) keys → covers key leaf ≡ true
leaf_covers keys key leaf some next not_above above =
    let low : List ℕ = key_or_empty leaf.key in
    covers_by (is_of_key key leaf.key) (is_below low key) (is_before_next key leaf.next) (elim (order low key) [
      | inl less ↦ inr (less, ap (is_before_next key) next ∙ before_next keys key low (next_key keys low) (next_is keys low) above)
      | inr (inl same) ↦ inl (own_key key leaf.key some same)
      | inr (inr more) ↦ absurd (not_both (is_below key low) more not_above)
    ])

-- ---- among the leaves of a history

pub leaf_of_key : (rows : List Row) (key : List ℕ) → Contains (keys_of rows) key
    → Contains (leaves rows) (leaf_of rows key)
leaf_of_key rows key (k, below, is) = (suc k, omega (arith, below, length-map (keys_of rows) (leaf_of rows)), get_or-map (leaf_of rows) (keys_of rows) k key (leaf_of rows key) below ∙ ap (leaf_of rows) is)

leaf_of_low : (rows : List Row) (low : List ℕ) → (low ≡ []) ⊎ Contains (keys_of rows) low
    → (leaf : Leaf) × Contains (leaves rows) leaf × (key_or_empty leaf.key ≡ low) × (leaf.next ≡ next_key (keys_of rows) low)
leaf_of_low rows low (inl none) = (sentinel (keys_of rows), (0, omega arith, refl), sym none, ap (next_key (keys_of rows)) (sym none))
leaf_of_low rows low (inr has) = (leaf_of rows low, leaf_of_key rows low has, refl, refl)

-- If an item passes a test, the first one that does is within the list.
first_within : {X : Type 0} (test : X → Bool) (xs : List X) (x : X) → Contains xs x → test x ≡ true
    → position_or_len test xs < length xs
first_within test xs x has passes = elim (cases_lt (position_or_len test xs) (length xs)) [
  | inl within ↦ within
  | inr past ↦ absurd (not_both (test x) passes (ap test (sym has.2) ∙ fails_before_first test xs has.0 x (omega (arith, has.1, past))))
]

covered : (rows : List Row) (key : List ℕ) → 0 < length key
    → covering_index (leaves rows) key < length (leaves rows)
covered rows key some = by (greatest_is (keys_of rows) key)
  where
    by : ((low : List ℕ) × IsGreatest (keys_of rows) key low)
        → covering_index (leaves rows) key < length (leaves rows)
    by (low, is) =
        let (leaf, has, own, next) = leaf_of_low rows low is.there in
        first_within (covers key) (leaves rows) leaf has (leaf_covers (keys_of rows) key leaf some (next ∙ ap (next_key (keys_of rows)) (sym own)) (rw own is.not_above) (rw own is.greatest))

bytes_back : (texts : List (List ℕ)) → bytes_of (map digest_of_bytes texts) ≡ texts
bytes_back [] = refl
bytes_back (text ∷ texts) = ap (λ (rest : List (List ℕ)). text ∷ rest) (bytes_back texts)

pub made_leaf_is_made : (rows : List Row) (block : ℕ) (digest key : List ℕ) → 0 < length key
    → IsMadeLeaf rows block digest key (made_leaf rows block digest key)
made_leaf_is_made rows block digest key some =
    let within = covered rows key some in
    record {
      root_at_is = refl;
      block_digest_is = refl;
      leaf_count_is = refl;
      leaf_is = slice_get-get_or (leaves rows) (covering_index (leaves rows) key) (sentinel (keys_of rows)) within;
      leaf_covers = passes_at_first (covers key) (leaves rows) (sentinel (keys_of rows)) within;
      audit_is = bytes_back (audit_path (covering_index (leaves rows) key) (texts_of_leaves (leaves rows)));
    }

pub made_of_is_made : (rows : List Row) (block : ℕ) (digest : List ℕ) (query : Query)
    → 0 < length query.key → IsMade rows block digest (made_of rows block digest query)
made_of_is_made rows block digest query some = record { leaf_proof_is = made_leaf_is_made rows block digest query.key some; headers_are = refl; body_is = refl; uses_are = refl }

pub made_is_made : MadeProofIsMade
unfolding made_proof
made_is_made rows digests block query history key = (made_of_is_made (up_to rows block) block (digest_at digests block) query (omega (arith, key.some)), refl)

pub made_is_there : MadeProofIsAccepted
made_is_there rows digests block query ledger within key early =
    let made = made_is_made rows digests block query ledger.history key in
    let proof : Proof = made_proof rows digests block query in
    let own : proof.query ≡ query = made.1 in (
      made_is_proof rows digests block proof ledger within (rw own key) (rw own early) made.0,
      ap (λ (q : Query). verdict (root_of rows digests block) q proof) (sym own)
          ∙ made_is_accepted rows digests block proof ledger.history made.0
          ∙ ap (λ (q : Query). given (scan (up_to rows block) q)) own,
    )
