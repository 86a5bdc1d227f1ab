-- What is read at the start of bytes is spelled so, and what is spelled so is read. Before a fault
-- there are whole fields, and no spelling goes further.
use Rattle.std.proofs.Common.{◌≡◌, ℕ, zero, suc, ◌+◌, ◌-◌, ◌<◌, ◌≤◌, List, [], ◌∷◌, ◌++◌, length, take, min, Result, Ok, Err, refl, sym, ap, subst, ◌∙◌, append_assoc, arith, inl, inr}
use Rattle.std.specs.List.{concat}
use Rattle.std.proofs.lemmas.Bool.{cases_lt}
use Rattle.std.proofs.lemmas.List.{append-nil, length-append, take-append-le, take_min, get_or-append-add}
use Rattle.byte_fields.specs.Spelling.{IsBytes}
use Rattle.byte_fields.specs.Reading.{Field, ◌>>=◌, bind_at, ret_at, then_at, made_at}

pub IsBytes-after : (prefix rest : List ℕ) → IsBytes (prefix ++ rest) → IsBytes rest
IsBytes-after prefix rest h i = subst (λ (n : ℕ). n < 256) (get_or-append-add prefix rest i 0) (h (length prefix + i))

-- the value of a step that did not fail
abbrev done : {A : Type 0} → A → Result A ℕ
done x = Ok x

pub ok_is : {A : Type 0} (x y : A) → done x ≡ Ok y → x ≡ y
ok_is x y e = cc

-- how many bytes are left after what was read, or from the invalid field on
abbrev pub left_of : {A : Type 0} → Field A → ℕ
left_of (Ok x) = length x.1
left_of (Err left) = left

-- ---- lists of fields

pub concat-append : (xs ys : List (List ℕ)) → concat (xs ++ ys) ≡ concat xs ++ concat ys
concat-append [] ys = refl
concat-append (x ∷ xs) ys = ap (λ (t : List ℕ). x ++ t) (concat-append xs ys) ∙ sym (append_assoc x (concat xs) (concat ys))

abbrev none_of : (X : Type 0) → List X
none_of X = []

pub take_nil : {X : Type 0} (n : ℕ) → take n (none_of X) ≡ []
take_nil zero = refl
take_nil (suc n) = refl

pub take_past : {X : Type 0} (xs ys : List X) (m n : ℕ) → m ≡ length xs + n → take m (xs ++ ys) ≡ xs ++ take n ys
take_past [] ys m n e = ap (λ (k : ℕ). take k ys) (omega arith)
take_past (x ∷ xs) ys zero n e = absurd (omega arith)
take_past (x ∷ xs) ys (suc m) n e = ap (λ (t : List _). x ∷ t) (take_past xs ys m n (omega arith))

-- ---- the laws of a field

-- a value of this kind
pub record Sample {A : Type 0} (Is : A → Type 0) : Type 0 where
  pub value : A
  pub is : Is value

-- what was read is spelled so, before the rest
pub record Takes {A : Type 0} (fields : A → List (List ℕ)) (Is : A → Type 0) (bytes : List ℕ) (x : A) (rest : List ℕ) : Type 0 where
  pub parts : bytes ≡ concat (fields x) ++ rest
  pub is : Is x

-- the bytes before the last `left` ones are whole fields, from the first on, of some value
pub record Stops {A : Type 0} (fields : A → List (List ℕ)) (Is : A → Type 0) (bytes : List ℕ) (left : ℕ) : Type 0 where
  pub value : A
  pub is : Is value
  pub whole : ℕ
  pub rest : List ℕ
  pub parts : bytes ≡ concat (take whole (fields value)) ++ rest
  pub left_is : length rest ≡ left

-- A reading function reads the values of a kind, each spelled as its list of fields.
pub record IsField {A : Type 0} (read : List ℕ → Field A) (fields : A → List (List ℕ)) (Is : A → Type 0) : Type 0 where
  -- what is read is spelled so
  pub takes : (bytes : List ℕ) (x : A) (rest : List ℕ) → IsBytes bytes → read bytes ≡ Ok (x, rest) → Takes fields Is bytes x rest
  -- what is spelled so is read
  pub again : (x : A) (rest : List ℕ) → Is x → read (concat (fields x) ++ rest) ≡ Ok (x, rest)
  -- before a fault there are whole fields of some value
  pub stops : (bytes : List ℕ) (left : ℕ) → IsBytes bytes → read bytes ≡ Err left → Stops fields Is bytes left
  -- and no value's whole fields reach further than what was read
  pub most : (bytes : List ℕ) (x : A) (whole : ℕ) (rest : List ℕ) → IsBytes bytes → Is x → bytes ≡ concat (take whole (fields x)) ++ rest → left_of (read bytes) ≤ length rest
  pub some : Sample Is

falls_to : {A : Type 0} {read : List ℕ → Field A} {fields : A → List (List ℕ)} {Is : A → Type 0} → IsField read fields Is → (bytes : List ℕ) → IsBytes bytes → (r : Field A) → read bytes ≡ r → left_of r ≤ length bytes
falls_to {A} {read} {fields} {Is} field bytes fits (Ok x) e =
    let t = field.takes bytes x.0 x.1 fits e in
    omega (arith, ap length t.parts, length-append (concat (fields x.0)) x.1)
falls_to {A} {read} {fields} {Is} field bytes fits (Err left) e =
    let s = field.stops bytes left fits e in
    omega (arith, s.left_is, ap length s.parts, length-append (concat (take s.whole (fields s.value))) s.rest)

-- reading never lengthens what is left
pub falls : {A : Type 0} {read : List ℕ → Field A} {fields : A → List (List ℕ)} {Is : A → Type 0} → IsField read fields Is → (bytes : List ℕ) → IsBytes bytes → left_of (read bytes) ≤ length bytes
falls {A} {read} field bytes fits = falls_to field bytes fits (read bytes) refl

-- ---- no field

pub ret_field : {A : Type 0} (x : A) → IsField (ret_at x) (λ y. []) (λ y. y ≡ x)
ret_field {A} x = record {
  takes = λ bytes y rest fits e. let p = ok_is (x, bytes) (y, rest) e in record { parts = ap (λ (q : A × List ℕ). q.1) p; is = sym (ap (λ (q : A × List ℕ). q.0) p) };
  again = λ y rest is. ap (λ (z : A). Ok (z, rest)) (sym is);
  stops = λ bytes left fits e. absurd cc;
  most = λ bytes y whole rest fits is e. let p : bytes ≡ rest = e ∙ ap (λ (t : List (List ℕ)). concat t ++ rest) (take_nil whole) in omega (arith, ap length p);
  some = record { value = x; is = refl };
}

-- ---- the same field with other names for its fields and its values

pub renamed : {A : Type 0} {read : List ℕ → Field A} {fields others : A → List (List ℕ)} {Is Does : A → Type 0} → IsField read fields Is → ((x : A) → Is x → Does x) → ((x : A) → Does x → Is x) → ((x : A) → Is x → fields x ≡ others x) → IsField read others Does
renamed {A} {read} {fields} {others} {Is} {Does} field to from same = record {
  takes = λ bytes x rest fits e. let t = field.takes bytes x rest fits e in record { parts = t.parts ∙ ap (λ (s : List (List ℕ)). concat s ++ rest) (same x t.is); is = to x t.is };
  again = λ x rest is. ap (λ (s : List (List ℕ)). read (concat s ++ rest)) (sym (same x (from x is))) ∙ field.again x rest (from x is);
  stops = λ bytes left fits e. let s = field.stops bytes left fits e in record { value = s.value; is = to s.value s.is; whole = s.whole; rest = s.rest; parts = s.parts ∙ ap (λ (t : List (List ℕ)). concat (take s.whole t) ++ s.rest) (same s.value s.is); left_is = s.left_is };
  most = λ bytes x whole rest fits is e. field.most bytes x whole rest fits (from x is) (e ∙ ap (λ (t : List (List ℕ)). concat (take whole t) ++ rest) (sym (same x (from x is))));
  some = record { value = field.some.value; is = to field.some.value field.some.is };
}

-- ---- one field, then the field that its value selects

module _ {A B : Type 0} {read_a : List ℕ → Field A} {read_b : A → List ℕ → Field B} {fields_a : A → List (List ℕ)} {fields_b : B → List (List ℕ)} {Is_a : A → Type 0} {Is_b : A → B → Type 0}
    (head : B → A) (first : IsField read_a fields_a Is_a) (second : (a : A) → Is_a a → IsField (read_b a) fields_b (Is_b a)) (heads : (a : A) (b : B) → Is_a a → Is_b a b → head b ≡ a) where
  abbrev both : B → List (List ℕ)
  both b = fields_a (head b) ++ fields_b b

  abbrev Both : B → Type 0
  Both b = Is_a (head b) × Is_b (head b) b

  abbrev then_b : A × List ℕ → Field B
  then_b a = read_b a.0 a.1

  is_both : (a : A) (b : B) → Is_a a → Is_b a b → Both b
  is_both a b is_a is_b = let same = sym (heads a b is_a is_b) in (subst Is_a same is_a, subst (λ (h : A). Is_b h b) same is_b)

  bind_takes : (bytes : List ℕ) (b : B) (rest : List ℕ) → IsBytes bytes → (r : Field A) → read_a bytes ≡ r → (r >>= then_b) ≡ Ok (b, rest) → Takes both Both bytes b rest
  bind_takes bytes b rest fits (Ok a) e got =
      let one = first.takes bytes a.0 a.1 fits e in
      let after : IsBytes a.1 = IsBytes-after (concat (fields_a a.0)) a.1 (subst IsBytes one.parts fits) in
      let two = (second a.0 one.is).takes a.1 b rest after got in
      let same : head b ≡ a.0 = heads a.0 b one.is two.is in
      let parts : bytes ≡ concat (fields_a a.0 ++ fields_b b) ++ rest =
      one.parts ∙ ap (λ (t : List ℕ). concat (fields_a a.0) ++ t) two.parts ∙ sym (append_assoc (concat (fields_a a.0)) (concat (fields_b b)) rest) ∙ ap (λ (t : List ℕ). t ++ rest) (sym (concat-append (fields_a a.0) (fields_b b))) in
      record { parts = parts ∙ ap (λ (h : A). concat (fields_a h ++ fields_b b) ++ rest) (sym same); is = is_both a.0 b one.is two.is }
  bind_takes bytes b rest fits (Err left) e got = absurd cc

  bind_again : (b : B) (rest : List ℕ) → Both b → bind_at read_a read_b (concat (both b) ++ rest) ≡ Ok (b, rest)
  bind_again b rest is =
      let parts : concat (both b) ++ rest ≡ concat (fields_a (head b)) ++ (concat (fields_b b) ++ rest) =
      ap (λ (t : List ℕ). t ++ rest) (concat-append (fields_a (head b)) (fields_b b)) ∙ append_assoc (concat (fields_a (head b))) (concat (fields_b b)) rest in
      ap (λ (t : List ℕ). read_a t >>= then_b) parts ∙ ap (λ (r : Field A). r >>= then_b) (first.again (head b) (concat (fields_b b) ++ rest) is.0) ∙ (second (head b) is.0).again b rest is.1

  bind_stops : (bytes : List ℕ) (left : ℕ) → IsBytes bytes → (r : Field A) → read_a bytes ≡ r → (r >>= then_b) ≡ Err left → Stops both Both bytes left
  bind_stops bytes left fits (Ok a) e got =
      let one = first.takes bytes a.0 a.1 fits e in
      let after : IsBytes a.1 = IsBytes-after (concat (fields_a a.0)) a.1 (subst IsBytes one.parts fits) in
      let two = (second a.0 one.is).stops a.1 left after got in
      let b = two.value in
      let same : head b ≡ a.0 = heads a.0 b one.is two.is in
      let n : ℕ = length (fields_a a.0) + two.whole in
      let taken : take n (fields_a a.0 ++ fields_b b) ≡ fields_a a.0 ++ take two.whole (fields_b b) = take_past (fields_a a.0) (fields_b b) n two.whole refl in
      let parts : bytes ≡ concat (take n (fields_a a.0 ++ fields_b b)) ++ two.rest =
      one.parts ∙ ap (λ (t : List ℕ). concat (fields_a a.0) ++ t) two.parts ∙ sym (append_assoc (concat (fields_a a.0)) (concat (take two.whole (fields_b b))) two.rest)
      ∙ ap (λ (t : List ℕ). t ++ two.rest) (sym (concat-append (fields_a a.0) (take two.whole (fields_b b))) ∙ ap concat (sym taken)) in
      record { value = b; is = is_both a.0 b one.is two.is; whole = n; rest = two.rest; parts = parts ∙ ap (λ (h : A). concat (take n (fields_a h ++ fields_b b)) ++ two.rest) (sym same); left_is = two.left_is }
  bind_stops bytes left fits (Err l) e got =
      let same : l ≡ left = cc in
      let one = first.stops bytes l fits e in
      let a = one.value in
      let above = (second a one.is).some in
      let b = above.value in
      let same_head : head b ≡ a = heads a b one.is above.is in
      let n : ℕ = min one.whole (length (fields_a a)) in
      let taken : take n (fields_a a ++ fields_b b) ≡ take one.whole (fields_a a) = take-append-le n (fields_a a) (fields_b b) (omega arith) ∙ take_min one.whole (fields_a a) in
      let parts : bytes ≡ concat (take n (fields_a a ++ fields_b b)) ++ one.rest = one.parts ∙ ap (λ (t : List (List ℕ)). concat t ++ one.rest) (sym taken) in
      record { value = b; is = is_both a b one.is above.is; whole = n; rest = one.rest; parts = parts ∙ ap (λ (h : A). concat (take n (fields_a h ++ fields_b b)) ++ one.rest) (sym same_head); left_is = one.left_is ∙ same }

  bind_falls : (bytes : List ℕ) → IsBytes bytes → (r : Field A) → read_a bytes ≡ r → left_of (r >>= then_b) ≤ left_of r
  bind_falls bytes fits (Ok a) e =
      let one = first.takes bytes a.0 a.1 fits e in
      falls (second a.0 one.is) a.1 (IsBytes-after (concat (fields_a a.0)) a.1 (subst IsBytes one.parts fits))
  bind_falls bytes fits (Err left) e = omega arith

  bind_most : (bytes : List ℕ) (b : B) (whole : ℕ) (rest : List ℕ) → IsBytes bytes → Both b → bytes ≡ concat (take whole (both b)) ++ rest → left_of (bind_at read_a read_b bytes) ≤ length rest
  bind_most bytes b whole rest fits is e =
      elim (cases_lt whole (length (fields_a (head b)))) [
        | inl lt ↦
            let taken : take whole (both b) ≡ take whole (fields_a (head b)) = take-append-le whole (fields_a (head b)) (fields_b b) (omega arith) in
            let parts : bytes ≡ concat (take whole (fields_a (head b))) ++ rest = e ∙ ap (λ (t : List (List ℕ)). concat t ++ rest) taken in
            let far : left_of (read_a bytes) ≤ length rest = first.most bytes (head b) whole rest fits is.0 parts in
            let on : left_of (bind_at read_a read_b bytes) ≤ left_of (read_a bytes) = bind_falls bytes fits (read_a bytes) refl in
            omega (arith, far, on)
        | inr le ↦
            let n : ℕ = whole - length (fields_a (head b)) in
            let after : List ℕ = concat (take n (fields_b b)) ++ rest in
            let taken : take whole (both b) ≡ fields_a (head b) ++ take n (fields_b b) = take_past (fields_a (head b)) (fields_b b) whole n (omega arith) in
            let parts : bytes ≡ concat (fields_a (head b)) ++ after =
            e ∙ ap (λ (t : List (List ℕ)). concat t ++ rest) taken ∙ ap (λ (t : List ℕ). t ++ rest) (concat-append (fields_a (head b)) (take n (fields_b b))) ∙ append_assoc (concat (fields_a (head b))) (concat (take n (fields_b b))) rest in
            let got : read_a bytes ≡ Ok (head b, after) = ap read_a parts ∙ first.again (head b) after is.0 in
            let far : left_of (read_b (head b) after) ≤ length rest = (second (head b) is.0).most after b n rest (IsBytes-after (concat (fields_a (head b))) after (subst IsBytes parts fits)) is.1 refl in
            subst (λ (r : Field A). left_of (r >>= then_b) ≤ length rest) (sym got) far
      ]

  pub bind_field : IsField (bind_at read_a read_b) (λ b. fields_a (head b) ++ fields_b b) (λ b. Is_a (head b) × Is_b (head b) b)
  bind_field = record {
    takes = λ bytes b rest fits e. bind_takes bytes b rest fits (read_a bytes) refl e;
    again = bind_again;
    stops = λ bytes left fits e. bind_stops bytes left fits (read_a bytes) refl e;
    most = bind_most;
    some = let a = first.some in let b = (second a.value a.is).some in record { value = b.value; is = is_both a.value b.value a.is b.is };
  }

-- ---- one field after another, and fields as one value

pub then_field : {A B : Type 0} {read_a : List ℕ → Field A} {read_b : List ℕ → Field B} {fields_a : A → List (List ℕ)} {fields_b : B → List (List ℕ)} {Is_a : A → Type 0} {Is_b : B → Type 0} → IsField read_a fields_a Is_a → IsField read_b fields_b Is_b
    → IsField (then_at read_a read_b) (λ p. fields_a p.0 ++ fields_b p.1) (λ p. Is_a p.0 × Is_b p.1)
then_field {A} {B} {read_a} {read_b} {fields_a} {fields_b} {Is_a} {Is_b} first second =
    let pair = λ (a : A) (is_a : Is_a a). bind_field {Is_b = λ b p. p ≡ (a, b)} (λ (p : A × B). p.1) second (λ b is_b. ret_field (a, b)) (λ b p is_b is_p. ap (λ (q : A × B). q.1) is_p) in
    renamed (bind_field {Is_b = λ a p. Is_b p.1 × (p ≡ (a, p.1))} (λ (p : A × B). p.0) first pair (λ a p is_a is_p. ap (λ (q : A × B). q.0) is_p.1))
    (λ p is. (is.0, is.1.0)) (λ p is. (is.0, (is.1, refl))) (λ p is. ap (λ (t : List (List ℕ)). fields_a p.0 ++ t) (append-nil (fields_b p.1)))

-- fields as one value, of which they are the parts
pub made_field : {A B : Type 0} {read : List ℕ → Field A} {fields : A → List (List ℕ)} {Is : A → Type 0} (make : A → B) (parts : B → A) → IsField read fields Is → ((a : A) → Is a → parts (make a) ≡ a)
    → IsField (made_at make read) (λ b. fields (parts b)) (λ b. Is (parts b) × (b ≡ make (parts b)))
made_field {A} {B} {read} {fields} {Is} make parts field back =
    renamed (bind_field {Is_b = λ a b. b ≡ make a} parts field (λ a is_a. ret_field (make a)) (λ a b is_a is_b. ap parts is_b ∙ back a is_a))
    (λ b is. is) (λ b is. is) (λ b is. append-nil (fields (parts b)))
