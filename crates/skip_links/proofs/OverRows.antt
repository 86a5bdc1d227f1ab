-- Paths over the rows of a history are those over the blocks of the key.
use Rattle.std.proofs.Common.{◌≡◌, ◌∙◌, ℕ, zero, suc, ◌+◌, ◌*◌, ◌^◌, ◌<◌, ◌≤◌, ◌==◌, Bool, true, nat_lt, List, [], ◌∷◌, length, map, filter, reverse, Option, Some, None, refl, sym, ap, subst, arith, inl, inr}
use Rattle.std.specs.Prelude.{slice_get, nat_le, if◌then◌else◌}
use Rattle.std.specs.List.{find, filter_map, range_with_len, AllByRecursion, AllPairs}
use Rattle.std.specs.Option.{option_map, option_or}
use Rattle.std.specs.Cmp.Lexicographic.{pointwise}
use Rattle.std.proofs.lemmas.Bool.{cases_Bool, lt-ltb, ltb-true}
use Rattle.std.proofs.lemmas.Option.{none-some, same_Some}
use Rattle.std.proofs.lemmas.List.{length-map, length-reverse, map-id}
use Rattle.lc_base.specs.declared.row.Row.{Row}
use Rattle.lc_base.specs.History.{IsLawful, StandsBefore, newest, latest}
use Rattle.skip_links.specs.Links.{links, link, height, height_to, is_older}
use Rattle.skip_links.specs.Falling.{IsFalling, first_block, from_level, last_at_level, older_blocks}
use Rattle.skip_links.specs.declared.limits.TheConstants.{MAX_LEVEL}
use Rattle.skip_links.proofs.Falls.{rest_falls}
use Rattle.skip_links.proofs.Towers.{blocks_fall, ordered_fall, lawful_link, level_is, find_of_blocks}
use Rattle.skip_links.proofs.Lists.{filter_map_on}
use Rattle.skip_links.specs.Towers.{tower, height_up_to, height_over, last_at}
use Rattle.skip_links.specs.Paths.{path, path_from, path_over, onward, next_block, links_among, blocks_of_key, binary_digits}
use Rattle.skip_links.proofs.PathTowers.{from_plain}
use Rattle.skip_links.proofs.Walks.{ended, first_up_to, over_with_more, path_over_short, path_over_latest}

-- ---- links

height_is_over : (top : ℕ) (rows : List Row) (key : List ℕ) (block : ℕ) → IsFalling (block ∷ older_blocks rows key block)
    → height_to top rows key block ≡ height_up_to top block (older_blocks rows key block)
unfolding height_to height_up_to
height_is_over zero rows key block falling = refl
height_is_over (suc top) rows key block falling = rw (level_is rows key block (suc top) falling, height_is_over top rows key block falling) refl

first_is : (blocks : List ℕ) → first_block blocks ≡ slice_get blocks 0
first_is [] = refl
first_is (block ∷ older) = refl

level_link : (level : ℕ) (blocks : List ℕ) → last_at_level blocks level ≡ last_at (λ (b : ℕ). b) blocks level
level_link level blocks = first_is (from_level level blocks) ∙ ap (λ (bs : List ℕ). slice_get bs 0) (sym (from_plain level blocks))

pub links_tower : (rows : List Row) (key : List ℕ) (block : ℕ) → IsLawful rows → links rows key block ≡ tower (λ (older : ℕ). older) block (older_blocks rows key block)
unfolding links tower
links_tower rows key block lawful =
    let older = older_blocks rows key block in
    filter_map_on (link rows key block) (last_at (λ (b : ℕ). b) older) (range_with_len 0 (height rows key block + 1))
    (λ level. lawful_link rows key block level lawful ∙ level_link level older)
    ∙ ap (λ (h : ℕ). filter_map (last_at (λ (b : ℕ). b) older) (range_with_len 0 (h + 1)))
    (height_is_over MAX_LEVEL rows key block (blocks_fall rows key block lawful) ∙ ap (height_over block) (sym (map-id older)))

-- ---- the blocks of a key

older_are : (key : List ℕ) (block : ℕ) (rows : List Row)
    → map (λ (row : Row). row.block) (filter (is_older key block) rows)
    ≡ filter (λ (b : ℕ). nat_lt b block) (map (λ (row : Row). row.block) (filter (λ (row : Row). pointwise ◌==◌ row.key key) rows))
older_are key block [] = refl
older_are key block (row ∷ rows) =
    let rest = older_are key block rows in
    elim (cases_Bool (pointwise ◌==◌ row.key key)) [
      | inr e ↦ rw e rest
      | inl e ↦ elim (cases_Bool (nat_lt row.block block)) [
        | inl f ↦ rw (e, f) (ap (λ (blocks : List ℕ). row.block ∷ blocks) rest)
        | inr f ↦ rw (e, f) rest
      ]
    ]

pub older_below : (rows : List Row) (key : List ℕ) (block : ℕ) → older_blocks rows key block ≡ filter (λ (b : ℕ). nat_lt b block) (blocks_of_key rows key)
older_below rows key block = older_are key block (reverse rows)

pub links_of_blocks : (rows : List Row) (key : List ℕ) (block : ℕ) → IsLawful rows → links rows key block ≡ links_among (blocks_of_key rows key) block
links_of_blocks rows key block lawful = links_tower rows key block lawful ∙ ap (tower (λ (older : ℕ). older) block) (older_below rows key block)

-- There is a block above those of all rows.
above_all : (rows : List Row) → (top : ℕ) × AllByRecursion (λ (row : Row). row.block < top) rows
above_all [] = (0, tt)
above_all (row ∷ rows) = let deep = above_all rows in (deep.0 + suc row.block, (omega arith, higher deep.0 (suc row.block) rows deep.1))
  where
    higher : (top more : ℕ) (rows : List Row) → AllByRecursion (λ (row : Row). row.block < top) rows → AllByRecursion (λ (row : Row). row.block < top + more) rows
    higher top more [] all = tt
    higher top more (row ∷ rows) all = (omega (arith, all.0), higher top more rows all.1)

pub all_older : (key : List ℕ) (top : ℕ) (rows : List Row) → AllByRecursion (λ (row : Row). row.block < top) rows → filter (is_older key top) rows ≡ filter (λ (row : Row). pointwise ◌==◌ row.key key) rows
all_older key top [] all = refl
all_older key top (row ∷ rows) all =
    let rest = all_older key top rows all.1 in
    elim (cases_Bool (pointwise ◌==◌ row.key key)) [
      | inr e ↦ rw e rest
      | inl e ↦ rw (e, lt-ltb row.block top all.0) (ap (λ (kept : List Row). row ∷ kept) rest)
    ]

pub key_falls : (rows : List Row) (key : List ℕ) → AllPairs StandsBefore rows → IsFalling (blocks_of_key rows key)
key_falls rows key ordered =
    let top = above_all (reverse rows) in
    subst IsFalling (ap (map (λ (row : Row). row.block)) (all_older key top.0 (reverse rows) top.1))
    (rest_falls top.0 (older_blocks rows key top.0) (ordered_fall rows key top.0 ordered))

filter_short : {A : Type 0} (test : A → Bool) (xs : List A) → length (filter test xs) ≤ length xs
filter_short test [] = omega arith
filter_short test (x ∷ xs) = elim (cases_Bool (test x)) [
  | inl e ↦ rw e (omega (arith, filter_short test xs))
  | inr e ↦ rw e (omega (arith, filter_short test xs))
]

few_blocks : (rows : List Row) (key : List ℕ) → length (blocks_of_key rows key) ≤ length rows
few_blocks rows key =
    let kept = filter (λ (row : Row). pointwise ◌==◌ row.key key) (reverse rows) in
    omega (arith, length-map kept (λ (row : Row). row.block), filter_short (λ (row : Row). pointwise ◌==◌ row.key key) (reverse rows), length-reverse rows)

found_first : (test : Row → Bool) (rows : List Row) → option_map (λ (row : Row). row.block) (find test rows) ≡ slice_get (map (λ (row : Row). row.block) (filter test rows)) 0
found_first test [] = refl
found_first test (row ∷ rows) = elim (cases_Bool (test row)) [
  | inl e ↦ rw e refl
  | inr e ↦ rw e (found_first test rows)
]

pub newest_block : (rows : List Row) (key : List ℕ) → option_map (λ (row : Row). row.block) (newest rows key) ≡ slice_get (blocks_of_key rows key) 0
newest_block rows key = found_first (λ (row : Row). pointwise ◌==◌ row.key key) (reverse rows)

-- ---- paths

same_links : (n t : ℕ) (f g : ℕ → List ℕ) (block : Option ℕ) → ((b : ℕ) → f b ≡ g b) → path_from n f t block ≡ path_from n g t block
unfolding path_from
same_links zero t f g block same = refl
same_links (suc n) t f g None same = refl
same_links (suc n) t f g (Some block) same =
    ap (λ (rest : List ℕ). block ∷ rest)
    (ap (λ (next : Option ℕ). path_from n f t next) (ap (λ (links : List ℕ). if nat_le block t then None else onward (λ (b : ℕ). b) t links) (same block)) ∙ same_links n t f g (next_block g t block) same)

pub path_of_blocks : (rows : List Row) (key : List ℕ) (at : ℕ) → IsLawful rows → path rows key at ≡ path_over (blocks_of_key rows key) at
unfolding path
path_of_blocks rows key at lawful =
    let blocks = blocks_of_key rows key in
    same_links (length rows) at (links rows key) (links_among blocks) (option_map (λ (row : Row). row.block) (newest rows key)) (λ block. links_of_blocks rows key block lawful)
    ∙ ap (path_from (length rows) (links_among blocks) at) (newest_block rows key)
    ∙ over_with_more (length rows) at blocks (key_falls rows key lawful.ordered) (few_blocks rows key)

pub path_short : (rows : List Row) (key : List ℕ) (at : ℕ) (version : Row) → IsLawful rows → newest rows key ≡ Some version → version.block < 2 ^ 32
    → length (path rows key at) ≤ 2 * binary_digits version.block + 2
path_short rows key at version lawful is few =
    rw (path_of_blocks rows key at lawful) (on (blocks_of_key rows key) (key_falls rows key lawful.ordered) (sym (newest_block rows key) ∙ ap (option_map (λ (row : Row). row.block)) is))
  where
    on : (blocks : List ℕ) → IsFalling blocks → slice_get blocks 0 ≡ Some version.block → length (path_over blocks at) ≤ 2 * binary_digits version.block + 2
    on [] falls first = absurd cc
    on (block ∷ older) falls first =
        let same : block ≡ version.block = cc in
        subst (λ (newest : ℕ). length (path_over (block ∷ older) at) ≤ 2 * binary_digits newest + 2) same
        (path_over_short block older at falls (subst (λ (b : ℕ). b < 2 ^ 32) (sym same) few))

pub path_latest : (rows : List Row) (key : List ℕ) (at : ℕ) → IsLawful rows
    → find (λ (block : ℕ). nat_le block at) (path rows key at) ≡ option_map (λ (row : Row). row.block) (latest rows key at)
path_latest rows key at lawful =
    ap (first_up_to at) (path_of_blocks rows key at lawful) ∙ path_over_latest (blocks_of_key rows key) at (key_falls rows key lawful.ordered)
    ∙ sym (find_of_blocks (λ (row : Row). pointwise ◌==◌ row.key key) (λ (b : ℕ). nat_le b at) (reverse rows))

-- ---- with as many turns as the newest version's block is high

falls_short : (blocks : List ℕ) (newest : ℕ) → IsFalling blocks → slice_get blocks 0 ≡ Some newest → length blocks ≤ suc newest
falls_short [] newest falls first = absurd cc
falls_short (block ∷ []) newest falls first = omega arith
falls_short (block ∷ previous ∷ older) newest falls first =
    let same : block ≡ newest = cc in
    let rest = falls_short (previous ∷ older) previous falls.1 refl in
    omega (arith, same, falls.0, rest)

pub path_turns : (rows : List Row) (key : List ℕ) (at : ℕ) (version : Row) → IsLawful rows → newest rows key ≡ Some version
    → path rows key at ≡ path_from (suc version.block) (links rows key) at (Some version.block)
path_turns rows key at version lawful is =
    let blocks = blocks_of_key rows key in
    let falls = key_falls rows key lawful.ordered in
    let first : slice_get blocks 0 ≡ Some version.block = sym (newest_block rows key) ∙ ap (option_map (λ (row : Row). row.block)) is in
    path_of_blocks rows key at lawful
    ∙ sym (over_with_more (suc version.block) at blocks falls (falls_short blocks version.block falls first))
    ∙ ap (path_from (suc version.block) (links_among blocks) at) first
    ∙ sym (same_links (suc version.block) at (links rows key) (links_among blocks) (Some version.block) (λ block. links_of_blocks rows key block lawful))

pub path_none : (rows : List Row) (key : List ℕ) (at : ℕ) → newest rows key ≡ None → path rows key at ≡ []
unfolding path
path_none rows key at none = ap (λ (o : Option Row). path_from (length rows) (links rows key) at (option_map (λ (row : Row). row.block) o)) none ∙ ended (length rows) at (links rows key)

-- ---- the step to an answer

passes_test : (p : ℕ → Bool) (xs : List ℕ) (x : ℕ) → find p xs ≡ Some x → p x ≡ true
passes_test p [] x e = absurd (none-some x e)
passes_test p (y ∷ xs) x e = elim (cases_Bool (p y)) [
  | inl t ↦ let e' : Some y ≡ Some x = rw t at e in ap p (sym (same_Some y x e')) ∙ t
  | inr f ↦ let e' : find p xs ≡ Some x = rw f at e in passes_test p xs x e'
]

pub low_step : (links_of : ℕ → List ℕ) (at block next : ℕ) → next_block links_of at block ≡ Some next → next ≤ at → slice_get (links_of block) 0 ≡ Some next
low_step links_of at block next is low = elim (cases_Bool (nat_le block at)) [
  | inl t ↦ let none : None ≡ Some next = rw t at is in absurd (none-some next none)
  | inr f ↦ let goes : onward (λ (link : ℕ). link) at (links_of block) ≡ Some next = rw f at is in on (find (λ (link : ℕ). nat_lt at link) (reverse (links_of block))) refl goes
]
  where
    on : (found : Option ℕ) → find (λ (link : ℕ). nat_lt at link) (reverse (links_of block)) ≡ found → onward (λ (link : ℕ). link) at (links_of block) ≡ Some next → slice_get (links_of block) 0 ≡ Some next
    on None e goes = sym (ap (λ (o : Option ℕ). option_or o (slice_get (links_of block) 0)) e) ∙ goes
    on (Some link) e goes =
        let same : link ≡ next = same_Some link next (sym (ap (λ (o : Option ℕ). option_or o (slice_get (links_of block) 0)) e) ∙ goes) in
        let above = ltb-true at link (passes_test (λ (l : ℕ). nat_lt at l) (reverse (links_of block)) link e) in
        absurd (omega (arith, same, above, low))
