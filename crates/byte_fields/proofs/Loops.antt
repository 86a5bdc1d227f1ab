-- Reading items one after another in a loop gives what `items_at` says.
use Rattle.std.proofs.Common.{◌≡◌, ℕ, suc, ◌+◌, ◌-◌, ◌<◌, ◌≤◌, List, [], ◌∷◌, ◌++◌, Result, Ok, Err, refl, sym, ap, ◌∙◌, append_assoc, arith}
use Rattle.std.proofs.lemmas.List.{append-nil}
use Rattle.byte_fields.specs.declared.fault.ReadError.{ReadError}
use Rattle.byte_fields.specs.declared.fault.ReadError.TheVariants as errors
use Rattle.byte_fields.specs.Reader.{error_left, Reads}
use Rattle.byte_fields.specs.Reading.{Field, ◌>>=◌, items_at}

abbrev failed : (A : Type 0) → ReadError → Result A ReadError
failed A error = Err error

-- what was read before, then what is still to be read
abbrev pub with_prefix : {A : Type 0} → List A → Field (List A) → Field (List A)
with_prefix prefix read = read >>= λ x. Ok (prefix ++ x.0, x.1)

regroup : {A : Type 0} (prefix : List A) (x : A) (read : Field (List A)) → with_prefix prefix (read >>= λ others. Ok (x ∷ others.0, others.1)) ≡ with_prefix (prefix ++ x ∷ []) read
regroup {A} prefix x (Ok others) = ap (λ (xs : List A). Ok (xs, others.1)) (simp append_assoc)
regroup prefix x (Err left) = refl

pub goes_on : {A : Type 0} (item : List ℕ → Field A) (prefix : List A) (count i : ℕ) (bytes : List ℕ) (x : A) (rest : List ℕ) (total : Field (List A)) → i < count → item bytes ≡ Ok (x, rest)
    → with_prefix prefix (items_at item (count - i) bytes) ≡ total → with_prefix (prefix ++ x ∷ []) (items_at item (count - (i + 1)) rest) ≡ total
unfolding items_at
goes_on item prefix count i bytes x rest total lt read so_far =
    let k : count - i ≡ suc (count - (i + 1)) = omega arith in
    let one : with_prefix prefix (items_at item (count - i) bytes) ≡ with_prefix (prefix ++ x ∷ []) (items_at item (count - (i + 1)) rest) = rw (k, read) (regroup prefix x (items_at item (count - (i + 1)) rest)) in
    sym one ∙ so_far

pub ends : {A : Type 0} (item : List ℕ → Field A) (prefix : List A) (count i : ℕ) (bytes : List ℕ) (left : ℕ) (total : Field (List A)) → i < count → item bytes ≡ Err left
    → with_prefix prefix (items_at item (count - i) bytes) ≡ total → total ≡ Err left
unfolding items_at
ends {A} item prefix count i bytes left total lt read so_far =
    let k : count - i ≡ suc (count - (i + 1)) = omega arith in
    let one : with_prefix prefix (items_at item (count - i) bytes) ≡ Err left = rw (k, read) refl in
    sym so_far ∙ one

pub is_done : {A : Type 0} (item : List ℕ → Field A) (prefix : List A) (count i : ℕ) (bytes : List ℕ) (total : Field (List A)) → count ≤ i → with_prefix prefix (items_at item (count - i) bytes) ≡ total → total ≡ Ok (prefix, bytes)
unfolding items_at
is_done {A} item prefix count i bytes total le so_far =
    let k : count - i ≡ 0 = omega arith in
    let one : with_prefix prefix (items_at item (count - i) bytes) ≡ Ok (prefix, bytes) = rw k (ap (λ (xs : List A). Ok (xs, bytes)) (append-nil prefix)) in
    sym so_far ∙ one

-- the same for an item that takes memory
pub ends_kept : {A : Type 0} (item : List ℕ → Field A) (prefix : List A) (count i : ℕ) (bytes : List ℕ) (error : ReadError) (rest : List ℕ) (total : Field (List A)) → i < count → Reads error_left (failed A error) (item bytes) rest
    → with_prefix prefix (items_at item (count - i) bytes) ≡ total → Reads error_left (failed (List A) error) total rest
ends_kept item prefix count i bytes (errors.Fault fault) rest total lt read so_far = ends item prefix count i bytes fault.left total lt read so_far
ends_kept item prefix count i bytes errors.Memory rest total lt read so_far = tt
