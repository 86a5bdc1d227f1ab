-- The lexicographic order of bytes is that of the big-endian numbers that eight of them make.
use Rattle.std.proofs.Common.{◌≡◌, ◌+◌, ◌*◌, ◌^◌, ◌<◌, ◌≤◌, ℕ, suc, List, [], ◌∷◌, ◌++◌, length, get_or, take, drop, Fits, w8, Ordering, Less, Equal, Greater, inl, inr, refl, sym, ap, subst, ◌∙◌, arith}
use Rattle.std.specs.Int.{w64, from_be_bytes}
use Rattle.std.specs.Ordering.{nat_cmp, ordering_then}
use Rattle.std.specs.Cmp.{nat_cmp_is}
use Rattle.std.specs.Cmp.Lexicographic.{slice_cmp}
use Rattle.std.proofs.Math.Nat.{pow-suc, mul_comm}
use Rattle.std.proofs.lemmas.Nat.{mul-add-lt}
use Rattle.std.proofs.lemmas.Bool.{cases_order, cases_lt}
use Rattle.std.proofs.lemmas.List.{length-take, length-take-le, length-drop, get_or-take, get_or-drop, get_or_past, take-append-drop, drop-drop}

-- Each item is a byte.
abbrev pub AreBytes : List ℕ → Type 0
AreBytes bytes = (i : ℕ) → Fits w8 (get_or bytes i 0)

then_assoc : (o p q : Ordering) → ordering_then o (ordering_then p q) ≡ ordering_then (ordering_then o p) q
then_assoc Less p q = refl
then_assoc Equal p q = refl
then_assoc Greater p q = refl

-- If the prefixes have the same length, the prefixes decide first, then the rests.
fronts_first : (fs gs xs ys : List ℕ) → length fs ≡ length gs → slice_cmp nat_cmp (fs ++ xs) (gs ++ ys) ≡ ordering_then (slice_cmp nat_cmp fs gs) (slice_cmp nat_cmp xs ys)
fronts_first [] [] xs ys same = refl
fronts_first [] (g ∷ gs) xs ys same = absurd (omega arith)
fronts_first (f ∷ fs) [] xs ys same = absurd (omega arith)
fronts_first (f ∷ fs) (g ∷ gs) xs ys same =
    ap (ordering_then (nat_cmp f g)) (fronts_first fs gs xs ys (omega arith))
    ∙ then_assoc (nat_cmp f g) (slice_cmp nat_cmp fs gs) (slice_cmp nat_cmp xs ys)

-- The number with these digits in base 256, the most significant first.
abbrev number : List ℕ → ℕ
number [] = 0
number (x ∷ xs) = x * 256 ^ length xs + number xs

number_below : (xs : List ℕ) → AreBytes xs → number xs < 256 ^ length xs
number_below [] bytes = omega arith
number_below (x ∷ xs) bytes =
    let first : Fits w8 x = bytes 0 in
    let rest : number xs < 256 ^ length xs = number_below xs (λ i. bytes (suc i)) in
    omega (arith, mul-add-lt x (256 ^ length xs) (number xs) 256 (omega arith) rest, pow-suc 256 (length xs))

pub less : (m n : ℕ) → m < n → nat_cmp m n ≡ Less
less m n below = sym (nat_cmp_is m n Less below)

pub greater : (m n : ℕ) → n < m → nat_cmp m n ≡ Greater
greater m n above = sym (nat_cmp_is m n Greater above)

equal : (n : ℕ) → nat_cmp n n ≡ Equal
equal n = sym (nat_cmp_is n n Equal refl)

greater_digit : (w x y m n : ℕ) → m < w → x < y → x * w + m < y * w + n
greater_digit w x y m n low below = omega (arith, mul-add-lt x w m y below low, mul_comm w y)

same_digit : (d m n : ℕ) → nat_cmp (d + m) (d + n) ≡ nat_cmp m n
same_digit d m n = elim (cases_order m n) [
  | inl same ↦ rw same (equal (d + n) ∙ sym (equal n))
  | inr (inl below) ↦ less (d + m) (d + n) (omega arith) ∙ sym (less m n below)
  | inr (inr above) ↦ greater (d + m) (d + n) (omega arith) ∙ sym (greater m n above)
]

-- Of two numbers, each a digit and a rest below the digit's weight, the digits decide first, then
-- the rests.
digits_first : (w x y m n : ℕ) → m < w → n < w → nat_cmp (x * w + m) (y * w + n) ≡ ordering_then (nat_cmp x y) (nat_cmp m n)
digits_first w x y m n low lower = elim (cases_order x y) [
  | inl same ↦ rw (same, equal y) (same_digit (y * w) m n)
  | inr (inl below) ↦ rw (less x y below) (less (x * w + m) (y * w + n) (greater_digit w x y m n low below))
  | inr (inr above) ↦ rw (greater x y above) (greater (x * w + m) (y * w + n) (greater_digit w y x n m lower above))
]

-- The numbers of lists of the same length are ordered as the lists are.
number_order : (xs ys : List ℕ) → length xs ≡ length ys → AreBytes xs → AreBytes ys → nat_cmp (number xs) (number ys) ≡ slice_cmp nat_cmp xs ys
number_order [] [] same left right = refl
number_order [] (y ∷ ys) same left right = absurd (omega arith)
number_order (x ∷ xs) [] same left right = absurd (omega arith)
number_order (x ∷ xs) (y ∷ ys) same left right =
    let as_long : length xs ≡ length ys = omega arith in
    rw as_long (
    digits_first (256 ^ length ys) x y (number xs) (number ys) (subst (λ n. number xs < 256 ^ n) as_long (number_below xs (λ i. left (suc i)))) (number_below ys (λ i. right (suc i)))
    ∙ ap (ordering_then (nat_cmp x y)) (number_order xs ys as_long (λ i. left (suc i)) (λ i. right (suc i))))

eight_number : (bytes : List ℕ) → length bytes ≡ 8 → from_be_bytes w64 bytes ≡ number bytes
eight_number [] long = absurd (omega arith)
eight_number (a ∷ []) long = absurd (omega arith)
eight_number (a ∷ b ∷ []) long = absurd (omega arith)
eight_number (a ∷ b ∷ c ∷ []) long = absurd (omega arith)
eight_number (a ∷ b ∷ c ∷ d ∷ []) long = absurd (omega arith)
eight_number (a ∷ b ∷ c ∷ d ∷ e ∷ []) long = absurd (omega arith)
eight_number (a ∷ b ∷ c ∷ d ∷ e ∷ f ∷ []) long = absurd (omega arith)
eight_number (a ∷ b ∷ c ∷ d ∷ e ∷ f ∷ g ∷ []) long = absurd (omega arith)
eight_number (a ∷ b ∷ c ∷ d ∷ e ∷ f ∷ g ∷ h ∷ []) long = omega arith
eight_number (a ∷ b ∷ c ∷ d ∷ e ∷ f ∷ g ∷ h ∷ i ∷ bytes) long = absurd (omega arith)

bytes_of_front : (n : ℕ) (xs : List ℕ) → AreBytes xs → AreBytes (take n xs)
bytes_of_front n xs bytes i = elim (cases_lt i n) [
  | inl inside ↦ rw (get_or-take n xs i 0 inside) (bytes i)
  | inr past ↦ rw (get_or_past (take n xs) i 0 (omega (arith, length-take n xs))) (omega arith)
]

-- The numbers of the first eight bytes decide first, then the rests.
words_first : (xs ys : List ℕ) → length xs ≡ length ys → 8 ≤ length xs → AreBytes xs → AreBytes ys
    → slice_cmp nat_cmp xs ys ≡ ordering_then (nat_cmp (from_be_bytes w64 (take 8 xs)) (from_be_bytes w64 (take 8 ys))) (slice_cmp nat_cmp (drop 8 xs) (drop 8 ys))
words_first xs ys same long left right =
    let first : length (take 8 xs) ≡ 8 = length-take-le 8 xs long in
    let second : length (take 8 ys) ≡ 8 = length-take-le 8 ys (omega arith) in
    let numbers : nat_cmp (from_be_bytes w64 (take 8 xs)) (from_be_bytes w64 (take 8 ys)) ≡ slice_cmp nat_cmp (take 8 xs) (take 8 ys) =
    (λ i. nat_cmp (eight_number (take 8 xs) first i) (eight_number (take 8 ys) second i))
    ∙ number_order (take 8 xs) (take 8 ys) (first ∙ sym second) (bytes_of_front 8 xs left) (bytes_of_front 8 ys right) in
    (λ i. slice_cmp nat_cmp (sym (take-append-drop 8 xs) i) (sym (take-append-drop 8 ys) i))
    ∙ fronts_first (take 8 xs) (take 8 ys) (drop 8 xs) (drop 8 ys) (first ∙ sym second)
    ∙ ap (λ o. ordering_then o (slice_cmp nat_cmp (drop 8 xs) (drop 8 ys))) (sym numbers)

words_differ : (m n : ℕ) (rest : Ordering) → (m ≡ n → ⊥) → nat_cmp m n ≡ ordering_then (nat_cmp m n) rest
words_differ m n rest other = elim (cases_order m n) [
  | inl same ↦ absurd (other same)
  | inr (inl below) ↦ rw (less m n below) refl
  | inr (inr above) ↦ rw (greater m n above) refl
]

words_agree : (m n : ℕ) (rest : Ordering) → m ≡ n → rest ≡ ordering_then (nat_cmp m n) rest
words_agree m n rest same = rw (same, equal n) refl

-- The two numbers that are compared: each is made of the eight bytes from `at` to `next` of its
-- list.
pub record AreWords (at next : ℕ) (xs ys : List ℕ) (m n : ℕ) : Type 0 where
  pub eight : next ≡ at + 8
  pub same_length : length xs ≡ length ys
  pub inside : next ≤ length xs
  pub left_bytes : AreBytes xs
  pub right_bytes : AreBytes ys
  pub left : m ≡ from_be_bytes w64 (take 8 (drop at xs))
  pub right : n ≡ from_be_bytes w64 (take 8 (drop at ys))

order_from : (at next : ℕ) (xs ys : List ℕ) (m n : ℕ) → AreWords at next xs ys m n
    → slice_cmp nat_cmp (drop at xs) (drop at ys) ≡ ordering_then (nat_cmp m n) (slice_cmp nat_cmp (drop next xs) (drop next ys))
order_from at next xs ys m n words =
    words_first (drop at xs) (drop at ys) (omega (arith, words.same_length, length-drop at xs, length-drop at ys)) (omega (arith, words.eight, words.inside, length-drop at xs)) (λ i. rw (get_or-drop at xs i 0) (words.left_bytes (at + i))) (λ i. rw (get_or-drop at ys i 0) (words.right_bytes (at + i)))
    ∙ (λ i. ordering_then (nat_cmp (sym words.left i) (sym words.right i)) (slice_cmp nat_cmp (drop-drop 8 at xs i) (drop-drop 8 at ys i)))
    ∙ ap (λ k. ordering_then (nat_cmp m n) (slice_cmp nat_cmp (drop k xs) (drop k ys))) (sym words.eight)

-- Words that differ decide the order.
pub decided : (at next : ℕ) (xs ys : List ℕ) (m n : ℕ) → AreWords at next xs ys m n → (m ≡ n → ⊥) → nat_cmp m n ≡ slice_cmp nat_cmp (drop at xs) (drop at ys)
decided at next xs ys m n words other =
    words_differ m n (slice_cmp nat_cmp (drop next xs) (drop next ys)) other ∙ sym (order_from at next xs ys m n words)

-- Words that are equal leave the order to the bytes that follow.
pub left_to_rest : (at next : ℕ) (xs ys : List ℕ) (m n : ℕ) → AreWords at next xs ys m n → m ≡ n
    → slice_cmp nat_cmp (drop next xs) (drop next ys) ≡ slice_cmp nat_cmp (drop at xs) (drop at ys)
left_to_rest at next xs ys m n words same =
    words_agree m n (slice_cmp nat_cmp (drop next xs) (drop next ys)) same ∙ sym (order_from at next xs ys m n words)
