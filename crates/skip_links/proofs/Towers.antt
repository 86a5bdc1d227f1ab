-- Links over a history are those over the falling list of the key's blocks.
use Rattle.std.proofs.Common.{zero, ◌+◌, nat_le, ◌++◌, ltb-true, ◌≡◌, ◌∙◌, ℕ, suc, ◌<◌, ◌≤◌, ◌*◌, ◌^◌, Bool, true, false, ◌&&◌, ◌||◌, ◌==◌, not, nat_lt, List, [], ◌∷◌, map, filter, reverse, refl, sym, ap, arith, inl, inr}
use Rattle.std.specs.Prelude.{None, bit_xor}
use Rattle.std.specs.List.{filter_map, range_with_len, find, list_any, AllByRecursion, AllPairs}
use Rattle.std.specs.Option.{option_map}
use Rattle.std.specs.Cmp.Lexicographic.{pointwise}
use Rattle.std.proofs.lemmas.List.{reverse-append}
use Rattle.std.proofs.lemmas.List.Folds.{list_any-append}
use Rattle.std.proofs.lemmas.Bool.{le-leb, and_parts, cases_Bool, cases_lt, lt-ltb, le-ltb}
use Rattle.std.proofs.lemmas.Slice.Eq.{bytes_eq-Decides}
use Rattle.std.proofs.lemmas.List.Elements.{recursion_from_All}
use Rattle.lc_base.specs.declared.row.Row.{Row}
use Rattle.lc_base.specs.History.{IsLawful, StandsBefore, up_to, below}
use Rattle.skip_links.specs.Links.{height_to, height, links, is_older, are_close, is_at_level, link, is_linked}
use Rattle.skip_links.specs.Falling.{older_blocks, IsFalling, is_first, from_level, last_at_level}
use Rattle.skip_links.specs.declared.limits.TheConstants.{MAX_LEVEL}
use Rattle.skip_links.proofs.Falls.{all_lower, none_in_interval, rest_falls}
use Rattle.skip_links.proofs.Differing.{apart, together, higher}
use Rattle.skip_links.proofs.Lists.{all_weaker, all_reverse, filter_reverse, filter_map_on, filter_map_none, not_both, any_filter, find_filter, find_on}

-- ---- from rows to their blocks

or_swap : (a b : Bool) → (a || b) ≡ (b || a)
or_swap true true = refl
or_swap true false = refl
or_swap false true = refl
or_swap false false = refl

pub any_reverse : {X : Type 0} (p : X → Bool) (xs : List X) → list_any p (reverse xs) ≡ list_any p xs
any_reverse p [] = refl
any_reverse p (x ∷ xs) =
    rw (reverse-append (x ∷ []) xs, list_any-append p (reverse xs) (x ∷ []), any_reverse p xs) (or_swap (list_any p xs) (p x || false) ∙ ap (λ (b : Bool). b || list_any p xs) (or_false (p x)))
  where
    or_false : (b : Bool) → (b || false) ≡ b
    or_false true = refl
    or_false false = refl

any_of_blocks : (t : Row → Bool) (q : ℕ → Bool) (rows : List Row) → list_any q (map (λ (row : Row). row.block) (filter t rows)) ≡ list_any (λ (row : Row). t row && q row.block) rows
any_of_blocks t q [] = refl
any_of_blocks t q (row ∷ rows) = elim (cases_Bool (t row)) [
  | inl e ↦ rw (e, any_of_blocks t q rows) refl
  | inr e ↦ rw e (any_of_blocks t q rows)
]

pub find_of_blocks : (t : Row → Bool) (q : ℕ → Bool) (rows : List Row) → option_map (λ (row : Row). row.block) (find (λ (row : Row). t row && q row.block) rows) ≡ find q (map (λ (row : Row). row.block) (filter t rows))
find_of_blocks t q [] = refl
find_of_blocks t q (row ∷ rows) = elim (cases_Bool (t row)) [
  | inr e ↦ rw e (find_of_blocks t q rows)
  | inl e ↦ elim (cases_Bool (q row.block)) [
    | inl f ↦ rw (e, f) refl
    | inr f ↦ rw (e, f) (find_of_blocks t q rows)
  ]
]

filter_blocks : (key : List ℕ) (c b : ℕ) (rows : List Row) → c < b → map (λ (row : Row). row.block) (filter (is_older key c) rows) ≡ filter (λ (q : ℕ). nat_lt q c) (map (λ (row : Row). row.block) (filter (is_older key b) rows))
filter_blocks key c b [] l = refl
filter_blocks key c b (row ∷ rows) l =
    let rest = filter_blocks key c b rows l in
    elim (cases_Bool (pointwise ◌==◌ row.key key)) [
      | inr e ↦ rw e rest
      | inl e ↦ elim (cases_lt row.block c) [
        | inl f ↦ rw (e, lt-ltb row.block c f, lt-ltb row.block b (omega (arith, f, l)), lt-ltb row.block c f) (ap (λ (t : List ℕ). row.block ∷ t) rest)
        | inr f ↦ elim (cases_Bool (nat_lt row.block b)) [
          | inl g ↦ rw (e, le-ltb row.block c f, g, le-ltb row.block c f) rest
          | inr g ↦ rw (e, le-ltb row.block c f, g) rest
        ]
      ]
    ]

-- ---- the definitions agree

pub level_is : (rows : List Row) (key : List ℕ) (c i : ℕ) → IsFalling (c ∷ older_blocks rows key c) → is_at_level rows key c i ≡ is_first i c (older_blocks rows key c)
level_is rows key c i h =
    ap not (sym (any_of_blocks (is_older key c) (λ (p : ℕ). are_close i p c) (reverse rows) ∙ any_reverse (λ (row : Row). is_older key c row && are_close i row.block c) rows))
    ∙ none_in_interval i c (older_blocks rows key c) h

filter_low : (c : ℕ) (rest : List ℕ) → AllByRecursion (λ (p : ℕ). p < c) rest → filter (λ (q : ℕ). nat_lt q c) rest ≡ rest
filter_low c [] h = refl
filter_low c (p ∷ rest) h = rw (lt-ltb p c h.0) (ap (λ (t : List ℕ). p ∷ t) (filter_low c rest h.1))

filter_first : (c : ℕ) (rest : List ℕ) → IsFalling (c ∷ rest) → filter (λ (q : ℕ). nat_lt q c) (c ∷ rest) ≡ rest
filter_first c rest h = rw (le-ltb c c (omega arith)) (filter_low c rest (all_lower c rest h))

-- The blocks after a block of the list are the versions before it.
abbrev IsTail : List Row → List ℕ → List ℕ → Type 0
IsTail rows key [] = Unit {0}
IsTail rows key (c ∷ rest) = older_blocks rows key c ≡ rest

tail_of : (rows : List Row) (key : List ℕ) (b c : ℕ) (rest : List ℕ) → c < b → older_blocks rows key b ≡ c ∷ rest → IsFalling (c ∷ rest) → older_blocks rows key c ≡ rest
tail_of rows key b c rest l e h = filter_blocks key c b (reverse rows) l ∙ ap (filter (λ (q : ℕ). nat_lt q c)) e ∙ filter_first c rest h

go : (rows : List Row) (key : List ℕ) (i : ℕ) (bs : List ℕ) → IsFalling bs → IsTail rows key bs → find (λ (c : ℕ). is_at_level rows key c i) bs ≡ last_at_level bs i
unfolding from_level
go rows key i [] falling is = refl
go rows key i (c ∷ rest) falling is =
    let level : is_at_level rows key c i ≡ is_first i c rest = level_is rows key c i (rw is falling) ∙ ap (is_first i c) is in
    elim (cases_Bool (is_first i c rest)) [
      | inl t ↦ rw (level, t) refl
      | inr t ↦ rw (level, t) (go rows key i rest (rest_falls c rest falling) (next_tail rest is falling))
    ]
  where
    next_tail : (rest : List ℕ) → older_blocks rows key c ≡ rest → IsFalling (c ∷ rest) → IsTail rows key rest
    next_tail [] is h = tt
    next_tail (d ∷ rest) is h = tail_of rows key c d rest h.0 is h.1

-- A link is to the last version at its level among the blocks of the key, if these fall.
pub link_is : (rows : List Row) (key : List ℕ) (b i : ℕ) → IsFalling (b ∷ older_blocks rows key b) → link rows key b i ≡ last_at_level (older_blocks rows key b) i
unfolding link
link_is rows key b i h =
    find_of_blocks (is_older key b) (λ (c : ℕ). is_at_level rows key c i) (reverse rows)
    ∙ go rows key i (older_blocks rows key b) (rest_falls b (older_blocks rows key b) h) (begin (older_blocks rows key b) refl h)
  where
    begin : (bs : List ℕ) → older_blocks rows key b ≡ bs → IsFalling (b ∷ bs) → IsTail rows key bs
    begin [] e h = tt
    begin (c ∷ rest) e h = tail_of rows key b c rest h.0 e h.1

-- ---- in a lawful history the blocks fall

abbrev AllFall : List Row → Type 0
AllFall [] = Unit {0}
AllFall (row ∷ rows) = AllByRecursion (λ (other : Row). StandsBefore other row) rows × AllFall rows

fall_push : (rows : List Row) (row : Row) → AllFall rows → AllByRecursion (λ (other : Row). StandsBefore row other) rows → AllFall (rows ++ row ∷ [])
fall_push [] row h k = (tt, tt)
fall_push (x ∷ rows) row h k = (back rows h.0, fall_push rows row h.1 k.1)
  where
    back : (rows : List Row) → AllByRecursion (λ (other : Row). StandsBefore other x) rows → AllByRecursion (λ (other : Row). StandsBefore other x) (rows ++ row ∷ [])
    back [] h = (k.0, tt)
    back (y ∷ rows) h = (h.0, back rows h.1)

fall_reversed : (rows : List Row) → AllPairs StandsBefore rows → AllFall (reverse rows)
fall_reversed [] h = tt
fall_reversed (row ∷ rows) h =
    rw (reverse-append (row ∷ []) rows) (fall_push (reverse rows) row (fall_reversed rows (λ i j d l k. h (suc i) (suc j) d (omega (arith, l)) (omega (arith, k))))
    (all_reverse (λ (other : Row). StandsBefore row other) rows (recursion_from_All (λ (other : Row). StandsBefore row other) rows (λ j d l. h 0 (suc j) d (omega arith) (omega (arith, l))))))

older_falls : (key : List ℕ) (block u : ℕ) (rows : List Row) → AllByRecursion (λ (row : Row). is_older key block row ≡ true → row.block < u) rows → AllFall rows → IsFalling (u ∷ map (λ (row : Row). row.block) (filter (is_older key block) rows))
older_falls key block u [] h f = tt
older_falls key block u (row ∷ rows) h f = elim (cases_Bool (is_older key block row)) [
  | inr e ↦ rw e (older_falls key block u rows h.1 f.1)
  | inl e ↦ rw e (h.0 e, older_falls key block row.block rows (all_weaker (λ (other : Row). StandsBefore other row) (λ (other : Row). is_older key block other ≡ true → other.block < row.block) (λ other before t. lower other before t e) rows f.0) f.1)
]
  where
    key_of : (r : Row) → is_older key block r ≡ true → r.key ≡ key
    key_of r t = (bytes_eq-Decides r.key key).0 (and_parts (pointwise ◌==◌ r.key key) (nat_lt r.block block) t).0

    lower : (other : Row) → StandsBefore other row → is_older key block other ≡ true → is_older key block row ≡ true → other.block < row.block
    lower other (inl less) t e = less
    lower other (inr same) t e = absurd (same.2 (key_of other t ∙ sym (key_of row e)))

pub ordered_fall : (rows : List Row) (key : List ℕ) (block : ℕ) → AllPairs StandsBefore rows → IsFalling (block ∷ older_blocks rows key block)
ordered_fall rows key block ordered = older_falls key block block (reverse rows) (all_reverse (λ (row : Row). is_older key block row ≡ true → row.block < block) rows (each rows)) (fall_reversed rows ordered)
  where
    each : (rows : List Row) → AllByRecursion (λ (row : Row). is_older key block row ≡ true → row.block < block) rows
    each [] = tt
    each (row ∷ rows) = (λ t. ltb-true row.block block (and_parts (pointwise ◌==◌ row.key key) (nat_lt row.block block) t).1, each rows)

pub blocks_fall : (rows : List Row) (key : List ℕ) (block : ℕ) → IsLawful rows → IsFalling (block ∷ older_blocks rows key block)
blocks_fall rows key block lawful = ordered_fall rows key block lawful.ordered

-- So each link of a lawful history is found in the blocks of the key alone.
pub lawful_link : (rows : List Row) (key : List ℕ) (block level : ℕ) → IsLawful rows → link rows key block level ≡ last_at_level (older_blocks rows key block) level
lawful_link rows key block level lawful = link_is rows key block level (blocks_fall rows key block lawful)

pub filter_twice : {X : Type 0} (t p : X → Bool) (xs : List X) → ((x : X) → t x ≡ true → p x ≡ true) → filter t (filter p xs) ≡ filter t xs
filter_twice t p [] f = refl
filter_twice t p (x ∷ xs) f =
    let rest = filter_twice t p xs f in
    elim (cases_Bool (p x)) [
      | inl e ↦ rw (e, rest) refl
      | inr e ↦ elim (cases_Bool (t x)) [
        | inl u ↦ absurd (not_both (p x) (f x u) e)
        | inr u ↦ rw (e, u) rest
      ]
    ]

-- ---- a part of the rows with all that are older has the same links

older_is_low : (key : List ℕ) (block : ℕ) (row : Row) → is_older key block row ≡ true → row.block < block
older_is_low key block row t = ltb-true row.block block (and_parts (pointwise ◌==◌ row.key key) (nat_lt row.block block) t).1

-- a part of the rows that has all rows of blocks before this one
abbrev pub KeepsOlder : (Row → Bool) → ℕ → Type 0
KeepsOlder keeps block = (row : Row) → row.block < block → keeps row ≡ true

level_of_part : (keeps : Row → Bool) (rows : List Row) (key : List ℕ) (block c level : ℕ) → KeepsOlder keeps block → c ≤ block → is_at_level (filter keeps rows) key c level ≡ is_at_level rows key c level
level_of_part keeps rows key block c level all l = ap not (any_filter (λ (row : Row). is_older key c row && are_close level row.block c) keeps rows
    (λ row t. let low = older_is_low key c row (and_parts (is_older key c row) (are_close level row.block c) t).0 in all row (omega (arith, low, l))))

height_of_part : (top : ℕ) (keeps : Row → Bool) (rows : List Row) (key : List ℕ) (block : ℕ) → KeepsOlder keeps block → height_to top (filter keeps rows) key block ≡ height_to top rows key block
unfolding height_to
height_of_part zero keeps rows key block all = refl
height_of_part (suc top) keeps rows key block all = rw (level_of_part keeps rows key block block (suc top) all (omega arith), height_of_part top keeps rows key block all) refl

linked_of_part : (keeps : Row → Bool) (rows : List Row) (key : List ℕ) (block level : ℕ) (row : Row) → KeepsOlder keeps block → is_linked (filter keeps rows) key block level row ≡ is_linked rows key block level row
linked_of_part keeps rows key block level row all = elim (cases_Bool (is_older key block row)) [
  | inl t ↦ rw t (level_of_part keeps rows key block row.block level all (omega (arith, older_is_low key block row t)))
  | inr t ↦ rw t refl
]

link_of_part : (keeps : Row → Bool) (rows : List Row) (key : List ℕ) (block level : ℕ) → KeepsOlder keeps block → link (filter keeps rows) key block level ≡ link rows key block level
unfolding link
link_of_part keeps rows key block level all = ap (option_map (λ (row : Row). row.block)) (
    ap (find (is_linked (filter keeps rows) key block level)) (filter_reverse keeps rows)
    ∙ find_filter (is_linked (filter keeps rows) key block level) keeps (reverse rows)
    (λ row t. all row (older_is_low key block row (and_parts (is_older key block row) (is_at_level (filter keeps rows) key row.block level) t).0))
    ∙ find_on (is_linked (filter keeps rows) key block level) (is_linked rows key block level) (reverse rows) (each (reverse rows)))
  where
    each : (xs : List Row) → AllByRecursion (λ (row : Row). is_linked (filter keeps rows) key block level row ≡ is_linked rows key block level row) xs
    each [] = tt
    each (row ∷ xs) = (linked_of_part keeps rows key block level row all, each xs)

-- The links over such a part are those over all rows.
links_of_part : (keeps : Row → Bool) (rows : List Row) (key : List ℕ) (block : ℕ) → KeepsOlder keeps block → links (filter keeps rows) key block ≡ links rows key block
unfolding links
links_of_part keeps rows key block all =
    filter_map_on (link (filter keeps rows) key block) (link rows key block) (range_with_len 0 (height_to MAX_LEVEL (filter keeps rows) key block + 1)) (λ level. link_of_part keeps rows key block level all)
    ∙ ap (λ (h : ℕ). filter_map (link rows key block) (range_with_len 0 (h + 1))) (height_of_part MAX_LEVEL keeps rows key block all)

pub links_up_to : (rows : List Row) (key : List ℕ) (block : ℕ) → links (up_to rows block) key block ≡ links rows key block
links_up_to rows key block = links_of_part (λ (row : Row). nat_le row.block block) rows key block (λ row low. le-leb row.block block (omega (arith, low)))

pub links_below : (rows : List Row) (key : List ℕ) (block : ℕ) → links (below rows block) key block ≡ links rows key block
links_below rows key block = links_of_part (λ (row : Row). nat_lt row.block block) rows key block (λ row low. lt-ltb row.block block low)

-- ---- heights and links

pub height_is : (top h : ℕ) (rows : List Row) (key : List ℕ) (block p : ℕ) (older : List ℕ) → IsFalling (block ∷ older_blocks rows key block)
    → older_blocks rows key block ≡ p ∷ older → p < block → 2 ^ h ≤ bit_xor p block → bit_xor p block < 2 * 2 ^ h → h ≤ top → height_to top rows key block ≡ h
unfolding height_to
height_is zero h rows key block p older falls is less low high few = omega (arith, few)
height_is (suc top) h rows key block p older falls is less low high few =
    let level = level_is rows key block (suc top) falls ∙ ap (is_first (suc top) block) is in
    elim (cases_lt h (suc top)) [
      | inl l ↦ rw (level, together (suc top) p block (higher h (suc top) (bit_xor p block) high l)) (height_is top h rows key block p older falls is less low high (omega (arith, l)))
      | inr g ↦
          let same : h ≡ suc top = omega (arith, few, g) in
          rw (level, apart (suc top) p block less (rw same at low)) (sym same)
    ]

first_at : (level : ℕ) (blocks : List ℕ) → blocks ≡ [] → last_at_level blocks level ≡ None
unfolding from_level
first_at level blocks e = rw e refl

-- A first version has no links.
pub links_none : (rows : List Row) (key : List ℕ) (block : ℕ) → IsLawful rows → older_blocks rows key block ≡ [] → links rows key block ≡ []
unfolding links
links_none rows key block lawful is =
    filter_map_none (link rows key block) (range_with_len 0 (height rows key block + 1))
    (λ level. lawful_link rows key block level lawful ∙ first_at level (older_blocks rows key block) is)
