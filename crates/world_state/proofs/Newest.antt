-- What entries that were staged say of the newest versions after them.
use Rattle.std.proofs.Common.{◌≡◌, ◌==◌, ℕ, List, [], ◌∷◌, ◌++◌, map, reverse, Bool, true, false, cond, Option, None, Some, refl, sym, ap, ◌∙◌}
use Rattle.std.specs.List.{find}
use Rattle.std.specs.Map.{update, update_all}
use Rattle.std.specs.Option.{option_or, option_map}
use Rattle.std.specs.Cmp.Lexicographic.{pointwise}
use Rattle.std.proofs.lemmas.List.{reverse-append, map-append}
use Rattle.std.proofs.lemmas.List.Folds.{find-append}
use Rattle.lc_base.specs.declared.row.Row.{Row}
use Rattle.world_state.specs.declared.held.Held.{Held}
use Rattle.world_state.specs.Rows.{entry_of, held_of, newest_staged, held_in}

map_or : {A B : Type 0} (f : A → B) (a b : Option A) → option_map f (option_or a b) ≡ option_or (option_map f a) (option_map f b)
map_or f None b = refl
map_or f (Some x) b = refl

map_cond : {A B : Type 0} (f : A → B) (b : Bool) (x : A) (o : Option A) → option_map f (cond b (Some x) o) ≡ cond b (Some (f x)) (option_map f o)
map_cond f true x o = refl
map_cond f false x o = refl

or_cond : {A : Type 0} (o : Option A) (b : Bool) (x : A) (p : Option A) → option_or o (cond b (Some x) p) ≡ option_or (option_or o (cond b (Some x) None)) p
or_cond None true x p = refl
or_cond None false x p = refl
or_cond (Some y) b x p = refl

map_map : {A B C : Type 0} (g : B → C) (f : A → B) (o : Option A) → option_map g (option_map f o) ≡ option_map (λ x. g (f x)) o
map_map g f None = refl
map_map g f (Some x) = refl

map_reverse : {A B : Type 0} (f : A → B) (xs : List A) → map f (reverse xs) ≡ reverse (map f xs)
map_reverse f [] = refl
map_reverse f (x ∷ xs) =
    ap (map f) (reverse-append (x ∷ []) xs)
    ∙ map-append f (reverse xs) (x ∷ [])
    ∙ ap (λ (ys : List _). ys ++ f x ∷ []) (map_reverse f xs)
    ∙ sym (reverse-append (f x ∷ []) (map f xs))

found_map : {A B : Type 0} (f : A → B) (p : B → Bool) (xs : List A) → find p (map f xs) ≡ option_map f (find (λ x. p (f x)) xs)
found_map f p [] = refl
found_map f p (x ∷ xs) = ap (cond (p (f x)) (Some (f x))) (found_map f p xs) ∙ sym (map_cond f (p (f x)) x (find (λ x. p (f x)) xs))

-- whether an entry is of a key
abbrev is_of : List ℕ → List ℕ × Held → Bool
is_of key entry = pointwise ◌==◌ entry.0 key

abbrev held : List ℕ × Held → Held
held entry = entry.1

-- the last of the entries after a first one
newest_staged_first : (entry : List ℕ × Held) (entries : List (List ℕ × Held)) (key : List ℕ) →
    newest_staged (entry ∷ entries) key ≡ option_or (newest_staged entries key) (cond (pointwise ◌==◌ entry.0 key) (Some entry.1) None)
newest_staged_first entry entries key =
    ap (λ all. option_map held (find (is_of key) all)) (reverse-append (entry ∷ []) entries)
    ∙ ap (option_map held) (find-append (is_of key) (reverse entries) (entry ∷ []))
    ∙ map_or held (find (is_of key) (reverse entries)) (cond (is_of key entry) (Some entry) None)
    ∙ ap (option_or (newest_staged entries key)) (map_cond held (is_of key entry) entry None)

-- entries that become the newest versions in turn leave of each key the last
pub newest_after_all : (before : List ℕ → Option Held) (entries : List (List ℕ × Held)) (key : List ℕ) →
    update_all (pointwise ◌==◌) before entries key ≡ option_or (newest_staged entries key) (before key)
newest_after_all before [] key = refl
newest_after_all before (entry ∷ entries) key =
    newest_after_all (update (pointwise ◌==◌) before entry.0 (Some entry.1)) entries key
    ∙ or_cond (newest_staged entries key) (pointwise ◌==◌ entry.0 key) entry.1 (before key)
    ∙ ap (λ o. option_or o (before key)) (sym (newest_staged_first entry entries key))

abbrev is_row_of : List ℕ → Row → Bool
is_row_of key row = pointwise ◌==◌ row.key key

-- the last of the entries of rows is that of the newest row
held_in_staged : (rows : List Row) (key : List ℕ) → newest_staged (map entry_of rows) key ≡ held_in rows key
held_in_staged rows key =
    ap (λ all. option_map held (find (is_of key) all)) (sym (map_reverse entry_of rows))
    ∙ ap (option_map held) (found_map entry_of (is_of key) (reverse rows))
    ∙ map_map held entry_of (find (is_row_of key) (reverse rows))

-- the newest version in rows with more after them
pub held_in_more : (rows more : List Row) (key : List ℕ) →
    held_in (rows ++ more) key ≡ option_or (newest_staged (map entry_of more) key) (held_in rows key)
held_in_more rows more key =
    ap (λ all. option_map held_of (find (is_row_of key) all)) (reverse-append rows more)
    ∙ ap (option_map held_of) (find-append (is_row_of key) (reverse more) (reverse rows))
    ∙ map_or held_of (find (is_row_of key) (reverse more)) (find (is_row_of key) (reverse rows))
    ∙ ap (λ o. option_or o (held_in rows key)) (sym (held_in_staged more key))
