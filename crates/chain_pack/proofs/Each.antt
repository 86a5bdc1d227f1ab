-- Reading items one after another in a loop gives what `each` says.
use Rattle.std.proofs.Common.{◌≡◌, ℕ, suc, ◌+◌, ◌<◌, ◌≤◌, List, [], ◌∷◌, ◌++◌, length, map, get_or, drop, Option, Some, None, Result, Ok, Err, refl, sym, ap, ◌∙◌, append_assoc, arith, add-one}
use Rattle.std.specs.List.{AllByRecursion}
use Rattle.std.specs.Result.{result_ok}
use Rattle.std.proofs.Math.Seq.{drop-cons}
use Rattle.std.proofs.lemmas.List.{append-nil, drop_all}
use Rattle.byte_fields.proofs.WrittenItems.{all_more}
use Rattle.chain_pack.specs.declared.read_error.ReadError.{ReadError}
use Rattle.chain_pack.specs.declared.read_error.ReadError.TheVariants as errors
use Rattle.chain_pack.specs.Reading.{Reads}
use Rattle.chain_pack.specs.Transactions.{each, with_first}

-- what was made before, then what is still to be made
abbrev pub with_prefix : {A E : Type 0} → List A → Result (List A) E → Result (List A) E
with_prefix before (Ok after) = Ok (before ++ after)
with_prefix before (Err fault) = Err fault

-- These were made of the first `count` items, and each is lawful.
pub record Made {X D B : Type 0} (view : X → D) (make : D → Option B) (Is : B → Type 0) (items : List X) (count : ℕ) (made : List B) : Type 0 where
  pub others : with_prefix made (each make count (map view (drop count items))) ≡ each make 0 (map view items)
  pub counted : length made ≡ count
  pub lawful : AllByRecursion Is made

pub length_more : {A : Type 0} (xs : List A) (x : A) → length (xs ++ x ∷ []) ≡ length xs + 1
length_more [] x = refl
length_more (y ∷ ys) x = omega (arith, length_more ys x)

abbrev result_of : {A : Type 0} (E : Type 0) → A → Result A E
result_of E x = Ok x

pub regroup : {A E : Type 0} (before : List A) (x : A) (others : Result (List A) E) → with_prefix before (with_first x others) ≡ with_prefix (before ++ x ∷ []) others
regroup {A} {E} before x (Ok others) = ap (λ (xs : List A). result_of E xs) (simp append_assoc)
regroup before x (Err fault) = refl

pub prefix_nil : {A E : Type 0} (others : Result (List A) E) → with_prefix [] others ≡ others
prefix_nil (Ok others) = refl
prefix_nil (Err fault) = refl

pub next : {X : Type 0} (items : List X) (i : ℕ) (x : X) → i < length items → x ≡ get_or items i x → drop i items ≡ x ∷ drop (i + 1) items
next {X} items i x lt is = drop-cons items i x lt ∙ ap (λ (y : X). y ∷ drop (suc i) items) (sym is) ∙ ap (λ (n : ℕ). x ∷ drop n items) (sym (add-one i))

pub made_none : {X D B : Type 0} (view : X → D) (make : D → Option B) (Is : B → Type 0) (items : List X) → Made view make Is items 0 []
made_none view make Is items = record { others = prefix_nil (each make 0 (map view items)); counted = refl; lawful = tt }

pub made_more : {X D B : Type 0} (view : X → D) (make : D → Option B) (Is : B → Type 0) (items : List X) (i : ℕ) (made : List B) (x : X) (y : B) → i < length items → x ≡ get_or items i x → make (view x) ≡ Some y → Is y
    → Made view make Is items i made → Made view make Is items (i + 1) (made ++ y ∷ [])
unfolding each
made_more view make Is items i made x y lt is found lawful so_far =
    let one : with_prefix made (each make i (map view (drop i items))) ≡ with_prefix (made ++ y ∷ []) (each make (i + 1) (map view (drop (i + 1) items)))
    = rw (next items i x lt is, found) (regroup made y (each make (i + 1) (map view (drop (i + 1) items)))) in
    record { others = sym one ∙ so_far.others; counted = length_more made y ∙ ap (λ (n : ℕ). n + 1) so_far.counted; lawful = all_more Is made y so_far.lawful lawful }

pub made_but : {X D B : Type 0} (view : X → D) (make : D → Option B) (Is : B → Type 0) (items : List X) (i : ℕ) (made : List B) (x : X) → i < length items → x ≡ get_or items i x → make (view x) ≡ None
    → Made view make Is items i made → each make 0 (map view items) ≡ Err i
unfolding each
made_but view make Is items i made x lt is missed so_far =
    let one : with_prefix made (each make i (map view (drop i items))) ≡ Err i = rw (next items i x lt is, missed) refl in
    sym so_far.others ∙ one

pub made_all : {X D B : Type 0} (view : X → D) (make : D → Option B) (Is : B → Type 0) (items : List X) (i : ℕ) (made : List B) → length items ≤ i
    → Made view make Is items i made → each make 0 (map view items) ≡ Ok made
unfolding each
made_all {X} {D} {B} view make Is items i made le so_far =
    let one : with_prefix made (each make i (map view (drop i items))) ≡ Ok made = rw (drop_all i items le) (ap (λ (xs : List B). Ok xs) (append-nil made)) in
    sym so_far.others ∙ one

abbrev failed : (A : Type 0) → ReadError → Result A ReadError
failed A error = Err error

-- the same if memory may run out
pub missed : {X D B : Type 0} (view : X → D) (make : D → Option B) (Is : B → Type 0) (items : List X) (i : ℕ) (made : List B) (x : X) (error : ReadError) → i < length items → x ≡ get_or items i x
    → Reads (failed B error) (make (view x)) → Made view make Is items i made → Reads (failed (List B) error) (result_ok (each make 0 (map view items)))
missed view make Is items i made x errors.Shape lt is read so_far = ap result_ok (made_but view make Is items i made x lt is read so_far)
missed view make Is items i made x errors.Memory lt is read so_far = tt
