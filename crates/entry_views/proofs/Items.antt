-- Items one after the other: the item at an index is what is read after those before it.
use Rattle.std.proofs.Common.{◌≡◌, ℕ, zero, suc, ◌<◌, List, [], ◌∷◌, length, slice_get, Some, Result, Ok, Err, refl, sym, ap, ◌∙◌, arith}
use Rattle.std.specs.Result.{result_ok}
use Rattle.byte_fields.specs.Reading.{Field, ◌>>=◌, items_at}
use Rattle.byte_fields.specs.declared.fault.Fault.{Fault}
use Rattle.byte_fields.specs.Reader.{fault_left, Reads}
use Rattle.byte_fields.proofs.Laws.{ok_is}
use Rattle.entry_views.specs.Items.{items_read, AreRead}

module _ {A : Type 0} (item : List ℕ → Field A) where
  -- the first item, and the others
  pub record IsSplit (n : ℕ) (bytes : List ℕ) (xs : List A) (rest : List ℕ) : Type 0 where
    pub first : A
    pub after : List ℕ
    pub others : List A
    pub first_read : item bytes ≡ Ok (first, after)
    pub others_read : items_at item n after ≡ Ok (others, rest)
    pub parts : xs ≡ first ∷ others

  split_others : (n : ℕ) (bytes : List ℕ) (xs : List A) (rest : List ℕ) (x : A) (after : List ℕ) → item bytes ≡ Ok (x, after) → (r : Field (List A)) → items_at item n after ≡ r → (r >>= (λ others. Ok (x ∷ others.0, others.1))) ≡ Ok (xs, rest)
      → IsSplit n bytes xs rest
  split_others n bytes xs rest x after first (Ok others) e got =
      let p = ok_is (x ∷ others.0, others.1) (xs, rest) got in
      record { first = x; after = after; others = others.0; first_read = first; others_read = e ∙ ap (λ (t : List ℕ). Ok (others.0, t)) (ap (λ (q : List A × List ℕ). q.1) p); parts = sym (ap (λ (q : List A × List ℕ). q.0) p) }
  split_others n bytes xs rest x after first (Err left) e got = absurd cc

  split_first : (n : ℕ) (bytes : List ℕ) (xs : List A) (rest : List ℕ) → (r : Field A) → item bytes ≡ r → (r >>= (λ a. items_at item n a.1 >>= (λ others. Ok (a.0 ∷ others.0, others.1)))) ≡ Ok (xs, rest) → IsSplit n bytes xs rest
  split_first n bytes xs rest (Ok a) e got = split_others n bytes xs rest a.0 a.1 e (items_at item n a.1) refl got
  split_first n bytes xs rest (Err left) e got = absurd cc

  pub split : (n : ℕ) (bytes : List ℕ) (xs : List A) (rest : List ℕ) → items_at item (suc n) bytes ≡ Ok (xs, rest) → IsSplit n bytes xs rest
  unfolding items_at
  split n bytes xs rest e = split_first n bytes xs rest (item bytes) refl e

  pub none_read : (bytes : List ℕ) (xs : List A) (rest : List ℕ) → items_at item zero bytes ≡ Ok (xs, rest) → (xs ≡ []) × (bytes ≡ rest)
  unfolding items_at
  none_read bytes xs rest e = let p = ok_is ([], bytes) (xs, rest) e in (sym (ap (λ (q : List A × List ℕ). q.0) p), ap (λ (q : List A × List ℕ). q.1) p)

  -- ---- how many there are

  pub counted : (n : ℕ) (bytes : List ℕ) (xs : List A) (rest : List ℕ) → items_at item n bytes ≡ Ok (xs, rest) → length xs ≡ n
  counted zero bytes xs rest e = ap (λ (t : List A). length t) (none_read bytes xs rest e).0
  counted (suc n) bytes xs rest e = let s = split n bytes xs rest e in ap (λ (t : List A). length t) s.parts ∙ ap suc (counted n s.after s.others rest s.others_read)

  read_is : (r : Field (List A)) → AreRead r → (rest : List ℕ) × (r ≡ Ok (items_read r, rest))
  read_is (Ok read) are = (read.1, refl)
  read_is (Err left) are = absurd are

  pub items_counted : (n : ℕ) (bytes : List ℕ) → AreRead (items_at item n bytes) → length (items_read (items_at item n bytes)) ≡ n
  items_counted n bytes are = let r = read_is (items_at item n bytes) are in counted n bytes (items_read (items_at item n bytes)) r.0 r.1

  -- ---- one of them

  -- after the items before it, this item is read
  pub record IsNth (i : ℕ) (bytes : List ℕ) (xs : List A) : Type 0 where
    pub value : A
    pub before : List A
    pub from : List ℕ
    pub after : List ℕ
    pub before_read : items_at item i bytes ≡ Ok (before, from)
    pub read : item from ≡ Ok (value, after)
    pub there : slice_get xs i ≡ Some value

  one_more_before : (i : ℕ) (bytes : List ℕ) (x : A) (after : List ℕ) (before : List A) (from : List ℕ) → item bytes ≡ Ok (x, after) → items_at item i after ≡ Ok (before, from) → items_at item (suc i) bytes ≡ Ok (x ∷ before, from)
  unfolding items_at
  one_more_before i bytes x after before from first others = rw (first, others) refl

  nth_read : (n i : ℕ) (bytes : List ℕ) (xs : List A) (rest : List ℕ) → items_at item n bytes ≡ Ok (xs, rest) → i < n → IsNth i bytes xs
  unfolding items_at
  nth_read zero i bytes xs rest e lt = absurd (omega arith)
  nth_read (suc n) zero bytes xs rest e lt =
      let s = split n bytes xs rest e in
      record { value = s.first; before = []; from = bytes; after = s.after; before_read = refl; read = s.first_read; there = ap (λ (t : List A). slice_get t 0) s.parts }
  nth_read (suc n) (suc i) bytes xs rest e lt =
      let s = split n bytes xs rest e in
      let next = nth_read n i s.after s.others rest s.others_read (omega arith) in
      record {
        value = next.value;
        before = s.first ∷ next.before;
        from = next.from;
        after = next.after;
        before_read = one_more_before i bytes s.first s.after next.before next.from s.first_read next.before_read;
        read = next.read;
        there = ap (λ (t : List A). slice_get t (suc i)) s.parts ∙ next.there;
      }

  pub nth : (n i : ℕ) (bytes : List ℕ) → AreRead (items_at item n bytes) → i < n → IsNth i bytes (items_read (items_at item n bytes))
  nth n i bytes are lt = let r = read_is (items_at item n bytes) are in nth_read n i bytes (items_read (items_at item n bytes)) r.0 r.1 lt

  pub this_item : (x : A) (rest : List ℕ) (from : List ℕ) → item from ≡ Ok (x, rest) → (result : Result A Fault) (after : List ℕ) → Reads fault_left result (item from) after → result_ok result ≡ Some x
  this_item x rest from is (Ok y) after read = ap Some (ap (λ (q : A × List ℕ). q.0) (ok_is (y, after) (x, rest) (sym read ∙ is)))
  this_item x rest from is (Err fault) after read = absurd cc

  -- ---- past all of them

  pub all_skipped : (r : Field (List A)) (xs : List A) (rest : List ℕ) → r ≡ Ok (xs, rest) → r ≡ Ok (items_read r, rest)
  all_skipped r xs rest e = e ∙ ap (λ (ys : List A). Ok (ys, rest)) (sym (ap items_read e))

  -- the i items before this one are not invalid
  pub none_before : (n i : ℕ) (bytes : List ℕ) → AreRead (items_at item n bytes) → i < n → (left : ℕ) → items_at item i bytes ≡ Err left → ⊥
  none_before n i bytes are lt left e = let before = (nth n i bytes are lt).before_read in absurd cc

  -- what is read after them is this item
  pub next_read : (n i : ℕ) (bytes : List ℕ) → AreRead (items_at item n bytes) → i < n → (before : List A) (from : List ℕ) → items_at item i bytes ≡ Ok (before, from) → (result : Result A Fault) (after : List ℕ) → Reads fault_left result (item from) after
      → result_ok result ≡ slice_get (items_read (items_at item n bytes)) i
  next_read n i bytes are lt before from skipped result after read =
      let n = nth n i bytes are lt in
      let same : n.from ≡ from = ap (λ (q : List A × List ℕ). q.1) (ok_is (n.before, n.from) (before, from) (sym n.before_read ∙ skipped)) in
      this_item n.value n.after from (ap item (sym same) ∙ n.read) result after read ∙ sym n.there
