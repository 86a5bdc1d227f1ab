-- Fields of one piece: an invalid one is invalid from its start.
use Rattle.std.proofs.Common.{◌≡◌, ℕ, zero, suc, ◌+◌, ◌^◌, ◌<◌, ◌≤◌, Bool, true, false, cond, ltb, List, [], ◌∷◌, ◌++◌, length, take, drop, replicate, Ok, Err, refl, sym, ap, subst, ◌∙◌, arith, inl, inr}
use Rattle.std.specs.List.{concat}
use Rattle.std.specs.Int.{Width, w16, w32, w64, byte_len, from_be_bytes, to_be_bytes}
use Rattle.std.proofs.lemmas.Bool.{cases_lt, ltb-false, le-ltb}
use Rattle.std.proofs.lemmas.List.{append-nil, take_at, drop_at, take-append-drop, length-append, length-take, length-replicate, get_or-drop, get_or-take, get_or_past}
use Rattle.std.proofs.lemmas.Nat.{be_bytes_2, be_bytes_4, be_bytes_8, from_be_bytes-to_be_bytes_2, from_be_bytes-to_be_bytes_4, from_be_bytes-to_be_bytes_8}
use Rattle.byte_fields.specs.Reading.{Field, ◌>>=◌, ruled_at, number_at, byte_at, bytes_at}
use Rattle.byte_fields.specs.Spelling.{IsBytes}
use Rattle.byte_fields.proofs.Laws.{IsField, Sample, left_of, ok_is, take_nil}

-- what was read is the piece, before the rest
pub record TakesPiece {A : Type 0} (piece : A → List ℕ) (Is : A → Type 0) (bytes : List ℕ) (x : A) (rest : List ℕ) : Type 0 where
  pub parts : bytes ≡ piece x ++ rest
  pub is : Is x

-- A reading function reads the values of a kind, each spelled as one piece.
pub record IsPiece {A : Type 0} (read : List ℕ → Field A) (piece : A → List ℕ) (Is : A → Type 0) : Type 0 where
  pub takes : (bytes : List ℕ) (x : A) (rest : List ℕ) → IsBytes bytes → read bytes ≡ Ok (x, rest) → TakesPiece piece Is bytes x rest
  pub again : (x : A) (rest : List ℕ) → Is x → read (piece x ++ rest) ≡ Ok (x, rest)
  -- a fault is reported at the start of the piece
  pub stops : (bytes : List ℕ) (left : ℕ) → read bytes ≡ Err left → left ≡ length bytes
  pub some : Sample Is

piece_falls : {A : Type 0} {read : List ℕ → Field A} {piece : A → List ℕ} {Is : A → Type 0} → IsPiece read piece Is → (bytes : List ℕ) → IsBytes bytes → (r : Field A) → read bytes ≡ r → left_of r ≤ length bytes
piece_falls {A} {read} {piece} {Is} field bytes fits (Ok x) e =
    let t = field.takes bytes x.0 x.1 fits e in
    omega (arith, ap length t.parts, length-append (piece x.0) x.1)
piece_falls field bytes fits (Err left) e = let same = field.stops bytes left e in omega (arith, same)

piece_most : {A : Type 0} {read : List ℕ → Field A} {piece : A → List ℕ} {Is : A → Type 0} → IsPiece read piece Is → (bytes : List ℕ) (x : A) (whole : ℕ) (rest : List ℕ) → IsBytes bytes → Is x → bytes ≡ concat (take whole (piece x ∷ [])) ++ rest → left_of (read bytes) ≤ length rest
piece_most {A} {read} {piece} {Is} field bytes x zero rest fits is e =
    let far = piece_falls field bytes fits (read bytes) refl in
    omega (arith, far, ap length e)
piece_most {A} {read} {piece} {Is} field bytes x (suc whole) rest fits is e =
    let parts : bytes ≡ piece x ++ rest = e ∙ ap (λ (t : List (List ℕ)). (piece x ++ concat t) ++ rest) (take_nil whole) ∙ ap (λ (t : List ℕ). t ++ rest) (append-nil (piece x)) in
    let got : read bytes ≡ Ok (x, rest) = ap read parts ∙ field.again x rest is in
    subst (λ (r : Field A). left_of r ≤ length rest) (sym got) (omega arith)

pub piece_field : {A : Type 0} {read : List ℕ → Field A} {piece : A → List ℕ} {Is : A → Type 0} → IsPiece read piece Is → IsField read (λ x. piece x ∷ []) Is
piece_field {A} {read} {piece} {Is} field = record {
  takes = λ bytes x rest fits e. let t = field.takes bytes x rest fits e in record { parts = t.parts ∙ ap (λ (p : List ℕ). p ++ rest) (sym (append-nil (piece x))); is = t.is };
  again = λ x rest is. ap (λ (p : List ℕ). read (p ++ rest)) (append-nil (piece x)) ∙ field.again x rest is;
  stops = λ bytes left fits e. record { value = field.some.value; is = field.some.is; whole = 0; rest = bytes; parts = refl; left_is = sym (field.stops bytes left e) };
  most = piece_most field;
  some = field.some;
}

-- ---- a rule

module _ {A : Type 0} {read : List ℕ → Field A} {piece : A → List ℕ} {Is : A → Type 0} (field : IsPiece read piece Is) (rule : A → Bool) where
  abbrev tested : List ℕ → A × List ℕ → Field A
  tested bytes a = cond (rule a.0) (Ok a) (Err (length bytes))

  test_passed : (bytes : List ℕ) (a : A × List ℕ) (b : Bool) (x : A × List ℕ) → rule a.0 ≡ b → cond b (Ok a) (Err (length bytes)) ≡ Ok x → (rule a.0 ≡ true) × (a ≡ x)
  test_passed bytes a true x is e = (is, ok_is a x e)
  test_passed bytes a false x is e = absurd cc

  test_failed : (bytes : List ℕ) (a : A × List ℕ) (b : Bool) (left : ℕ) → cond b (Ok a) (Err (length bytes)) ≡ Err left → left ≡ length bytes
  test_failed bytes a true left e = absurd cc
  test_failed bytes a false left e = cc

  ruled_takes : (bytes : List ℕ) (x : A) (rest : List ℕ) → IsBytes bytes → (r : Field A) → read bytes ≡ r → (r >>= tested bytes) ≡ Ok (x, rest) → TakesPiece piece (λ x. Is x × (rule x ≡ true)) bytes x rest
  ruled_takes bytes x rest fits (Ok a) e got =
      let passed = test_passed bytes a (rule a.0) (x, rest) refl got in
      let t = field.takes bytes a.0 a.1 fits e in
      subst (λ (p : A × List ℕ). TakesPiece piece (λ x. Is x × (rule x ≡ true)) bytes p.0 p.1) passed.1 (record { parts = t.parts; is = (t.is, passed.0) })
  ruled_takes bytes x rest fits (Err left) e got = absurd cc

  ruled_stops : (bytes : List ℕ) (left : ℕ) → (r : Field A) → read bytes ≡ r → (r >>= tested bytes) ≡ Err left → left ≡ length bytes
  ruled_stops bytes left (Ok a) e got = test_failed bytes a (rule a.0) left got
  ruled_stops bytes left (Err l) e got = let same : l ≡ left = cc in sym same ∙ field.stops bytes l e

  pub ruled_piece : Sample (λ x. Is x × (rule x ≡ true)) → IsPiece (ruled_at rule read) piece (λ x. Is x × (rule x ≡ true))
  ruled_piece some = record {
    takes = λ bytes x rest fits e. ruled_takes bytes x rest fits (read bytes) refl e;
    again = λ x rest is. ap (λ (r : Field A). r >>= tested (piece x ++ rest)) (field.again x rest is.0) ∙ ap (λ (b : Bool). cond b (Ok (x, rest)) (Err (length (piece x ++ rest)))) is.1;
    stops = λ bytes left e. ruled_stops bytes left (read bytes) refl e;
    some = some;
  }

-- ---- numbers

pub IsBytes-drop : (n : ℕ) (bytes : List ℕ) → IsBytes bytes → IsBytes (drop n bytes)
IsBytes-drop n bytes h i = rw get_or-drop (h (n + i))

pub IsBytes-take : (n : ℕ) (bytes : List ℕ) → IsBytes bytes → IsBytes (take n bytes)
IsBytes-take n bytes h i =
    elim (cases_lt i n) [
      | inl lt ↦ rw (get_or-take n bytes i 0 lt) (h i)
      | inr le ↦ rw (get_or_past (take n bytes) i 0 (omega (arith, length-take n bytes))) (omega arith)
    ]

-- the numbers of a width are those below the limit
pub record IsWide (w : Width) (limit : ℕ) : Type 0 where
  pub len : (n : ℕ) → length (to_be_bytes w n) ≡ byte_len w
  pub back : (bytes : List ℕ) → length bytes ≡ byte_len w → IsBytes bytes → to_be_bytes w (from_be_bytes w bytes) ≡ bytes
  pub again : (n : ℕ) → n < limit → from_be_bytes w (to_be_bytes w n) ≡ n
  pub below : (bytes : List ℕ) → IsBytes bytes → from_be_bytes w bytes < limit
  pub some : 0 < limit

pub wide16 : IsWide w16 (2 ^ 16)
wide16 = record {
  len = λ n. refl;
  back = λ bytes len fits. be_bytes_2 bytes _ len fits refl;
  again = λ n lt. from_be_bytes-to_be_bytes_2 n lt;
  below = λ bytes fits. omega (arith, fits 0, fits 1);
  some = omega arith;
}

pub wide32 : IsWide w32 (2 ^ 32)
wide32 = record {
  len = λ n. refl;
  back = λ bytes len fits. be_bytes_4 bytes _ len fits refl;
  again = λ n lt. from_be_bytes-to_be_bytes_4 n lt;
  below = λ bytes fits. omega (arith, fits 0, fits 1, fits 2, fits 3);
  some = omega arith;
}

pub wide64 : IsWide w64 (2 ^ 64)
wide64 = record {
  len = λ n. refl;
  back = λ bytes len fits. be_bytes_8 bytes _ len fits refl;
  again = λ n lt. from_be_bytes-to_be_bytes_8 n lt;
  below = λ bytes fits. omega (arith, fits 0, fits 1, fits 2, fits 3, fits 4, fits 5, fits 6, fits 7);
  some = omega arith;
}

-- enough bytes are left if a read succeeds
long_enough : {A : Type 0} (bytes : List ℕ) (b : Bool) (x y : A × List ℕ) → cond b (Err (length bytes)) (Ok x) ≡ Ok y → (b ≡ false) × (x ≡ y)
long_enough bytes true x y e = absurd cc
long_enough bytes false x y e = (refl, ok_is x y e)

too_short : {A : Type 0} (bytes : List ℕ) (b : Bool) (x : A × List ℕ) (left : ℕ) → cond b (Err (length bytes)) (Ok x) ≡ Err left → left ≡ length bytes
too_short bytes true x left e = cc
too_short bytes false x left e = absurd cc

pub number_piece : {w : Width} {limit : ℕ} → IsWide w limit → IsPiece (number_at w) (to_be_bytes w) (λ n. n < limit)
unfolding number_at
number_piece {w} {limit} wide =
    let len = byte_len w in
    record {
      takes = λ bytes n rest fits e.
          let long = long_enough bytes (ltb (length bytes) len) (from_be_bytes w (take len bytes), drop len bytes) (n, rest) e in
          let enough : len ≤ length bytes = ltb-false _ _ long.0 in
          let prefix : to_be_bytes w (from_be_bytes w (take len bytes)) ≡ take len bytes = wide.back (take len bytes) (omega (arith, length-take len bytes)) (IsBytes-take len bytes fits) in
          subst (λ (p : ℕ × List ℕ). TakesPiece (to_be_bytes w) (λ n. n < limit) bytes p.0 p.1) long.1
          (record { parts = sym (ap (λ (t : List ℕ). t ++ drop len bytes) prefix ∙ take-append-drop len bytes); is = wide.below (take len bytes) (IsBytes-take len bytes fits) });
      again = λ n rest lt.
          let enough : ltb (length (to_be_bytes w n ++ rest)) len ≡ false = le-ltb _ _ (omega (arith, length-append (to_be_bytes w n) rest, wide.len n)) in
          rw (enough, take_at (to_be_bytes w n) rest len (wide.len n), drop_at (to_be_bytes w n) rest len (wide.len n), wide.again n lt) refl;
      stops = λ bytes left e. too_short bytes (ltb (length bytes) len) (from_be_bytes w (take len bytes), drop len bytes) left e;
      some = record { value = 0; is = wide.some };
    }

-- ---- bytes

byte_takes : (bytes : List ℕ) (x : ℕ) (rest : List ℕ) → IsBytes bytes → byte_at bytes ≡ Ok (x, rest) → TakesPiece (λ n. n ∷ []) (λ n. n < 256) bytes x rest
unfolding byte_at
byte_takes [] x rest fits e = absurd cc
byte_takes (b ∷ bytes) x rest fits e = subst (λ (p : ℕ × List ℕ). TakesPiece (λ n. n ∷ []) (λ n. n < 256) (b ∷ bytes) p.0 p.1) (ok_is (b, bytes) (x, rest) e) (record { parts = refl; is = fits 0 })

byte_stops : (bytes : List ℕ) (left : ℕ) → byte_at bytes ≡ Err left → left ≡ length bytes
unfolding byte_at
byte_stops [] left e = cc
byte_stops (b ∷ bytes) left e = absurd cc

pub byte_piece : IsPiece byte_at (λ n. n ∷ []) (λ n. n < 256)
unfolding byte_at
byte_piece = record { takes = byte_takes; again = λ x rest is. refl; stops = byte_stops; some = record { value = 0; is = omega arith } }

pub bytes_piece : (n : ℕ) → IsPiece (bytes_at n) (λ bytes. bytes) (λ bytes. length bytes ≡ n)
unfolding bytes_at
bytes_piece n = record {
  takes = λ bytes x rest fits e.
      let long = long_enough bytes (ltb (length bytes) n) (take n bytes, drop n bytes) (x, rest) e in
      let enough : n ≤ length bytes = ltb-false _ _ long.0 in
      subst (λ (p : List ℕ × List ℕ). TakesPiece (λ bytes. bytes) (λ bytes. length bytes ≡ n) bytes p.0 p.1) long.1
      (record { parts = sym (take-append-drop n bytes); is = omega (arith, length-take n bytes) });
  again = λ x rest is.
      let enough : ltb (length (x ++ rest)) n ≡ false = le-ltb _ _ (omega (arith, length-append x rest)) in
      rw (enough, take_at x rest n is, drop_at x rest n is) refl;
  stops = λ bytes left e. too_short bytes (ltb (length bytes) n) (take n bytes, drop n bytes) left e;
  some = record { value = replicate n 0; is = length-replicate {A = ℕ} n 0 };
}
