-- What a source that has a known input answers to a read.
use Rattle.std.proofs.Common.{
  ◌≡◌,
  ◌==◌,
  true,
  false,
  Bool,
  ℕ,
  ◌*◌,
  ◌<◌,
  ◌≤◌,
  List,
  [],
  ◌++◌,
  length,
  take,
  drop,
  refl,
  sym,
  ap,
  subst,
  ◌∙◌,
  arith,
}
use Rattle.std.specs.Prelude.{Option, Some, None, Result, Ok, Err, not, codes}
use Rattle.std.specs.Int.{w32, from_be_bytes}
use Rattle.std.specs.Cmp.Lexicographic.{pointwise}
use Rattle.std.proofs.lemmas.Bool.{lt-ltb, le-ltb}
use Rattle.std.proofs.lemmas.List.{append_assoc, drop-drop, length-drop, take-append-drop}
use Rattle.lc_io.specs.Outside.{prepend}
use Rattle.light_client.specs.declared.block_root.BlockRoot.{BlockRoot}
use Rattle.light_client.specs.declared.error.LightError.{LightError}
use Rattle.light_client.specs.declared.error.LightError.TheVariants as errors
use Rattle.light_client.specs.Format.{has_magic, count_in, block_roots_in, light_in}
use Rattle.light_client.specs.Reading.{left_of_none, IsEndOf, HasTaken, HasStopped, IsHeadRead}
use Rattle.light_client.specs.Reading.{IsLightAnswer}
use Rattle.light_client.proofs.BlockRoots.{blocks_before}
use Rattle.light_client.proofs.Files.{is_found}
use Rattle.light_client.proofs.Taking.{taken_first, taken_end, stopped_short, stopped_sooner}
use Rattle.light_client.proofs.Taking.{stopped_after}

abbrev pub failed : LightError → Result ℕ LightError
failed error = Err error

abbrev pub counted : ℕ → Result ℕ LightError
counted count = Ok count

abbrev pub not_read : LightError → Result (List BlockRoot) LightError
not_read error = Err error

-- ---- the head

-- an input without as many bytes as a head
too_short : (input : List ℕ) → length input < 8 → (light_in input ≡ None)
    × (left_of_none input ≡ [])
unfolding light_in
too_short input short = (
  rw (lt-ltb (length input) 8 short) refl,
  rw (lt-ltb (length input) 8 short) refl,
)

-- an input that begins otherwise
differs : (input : List ℕ) → 8 ≤ length input → has_magic input ≡ false → (light_in input ≡ None)
    × (left_of_none input ≡ drop 8 input)
unfolding light_in
differs input long other = (
  rw (le-ltb (length input) 8 long, other) refl,
  rw (le-ltb (length input) 8 long, other) refl,
)

-- the source stopped before a head came
no_head : (input : List ℕ) (error : LightError) (left : Option (List ℕ))
    → HasStopped 8 (Some input) error left → IsHeadRead input (Err error) left
no_head input errors.Form left stopped =
    let s = stopped_short 8 input left stopped in
    let t = too_short input s.0 in
    (t.0, s.1 ∙ ap Some (sym t.1))
no_head input errors.Fault left stopped = taken_end input left stopped
no_head input errors.Memory left stopped = taken_end input left stopped

pub no_first_word : (input : List ℕ) (first left : Option (List ℕ)) (error : LightError)
    → first ≡ Some input → HasStopped 4 first error left → IsHeadRead input (Err error) left
no_first_word input first left error is stopped =
    no_head input error left (stopped_sooner 4 8 (Some input) left error (omega arith)
    (subst (λ (o : Option (List ℕ)). HasStopped 4 o error left) is stopped))

pub no_second_word : (input magic : List ℕ) (first before left : Option (List ℕ))
    (error : LightError) → first ≡ Some input → (length magic ≡ 4) × (first ≡ prepend magic before)
    → HasStopped 4 before error left → IsHeadRead input (Err error) left
no_second_word input magic first before left error is one stopped =
    no_head input error left (stopped_after 4 4 8 (Some input) before left magic error one.0
    (omega arith) (sym is ∙ one.1) stopped)

-- the eight bytes of a head
record IsHead (input magic number : List ℕ) (left : Option (List ℕ)) : Type 0 where
  long : 8 ≤ length input
  magic_is : magic ≡ take 4 input
  number_is : number ≡ take 4 (drop 4 input)
  left_is : left ≡ Some (drop 8 input)

head_is : (input magic number : List ℕ) (first before left : Option (List ℕ)) → first ≡ Some input
    → (length magic ≡ 4) × (first ≡ prepend magic before)
    → (length number ≡ 4) × (before ≡ prepend number left) → IsHead input magic number left
head_is input magic number first before left is one two =
    let m = taken_first 4 input magic before one.0 (sym is ∙ one.1) in
    let n = taken_first 4 (drop 4 input) number left two.0 (sym m.left_is ∙ two.1) in
    record {
      long = omega (arith, m.within, n.within, length-drop 4 input);
      magic_is = m.bytes_are;
      number_is = n.bytes_are;
      left_is = n.left_is ∙ ap Some (drop-drop 4 4 input);
    }

not_true : (b : Bool) → true ≡ not b → b ≡ false
not_true true is = is
not_true false is = refl

not_false : (b : Bool) → false ≡ not b → b ≡ true
not_false true is = refl
not_false false is = absurd (cc is)

-- the first word is compared through slices of it and of LCH1
begins_as : (input magic number a b : List ℕ) (left : Option (List ℕ)) (begins : Bool)
    → IsHead input magic number left → a ≡ magic → b ≡ codes "LCH1"
    → pointwise ◌==◌ a b ≡ begins → has_magic input ≡ begins
begins_as input magic number a b left begins head a_is b_is same =
    ap (λ (m : List ℕ). pointwise ◌==◌ m (codes "LCH1")) (sym (a_is ∙ head.magic_is))
    ∙ ap (λ (m : List ℕ). pointwise ◌==◌ a m) (sym b_is) ∙ same

pub other_head : (input magic number a b : List ℕ) (first before left : Option (List ℕ))
    → first ≡ Some input → (length magic ≡ 4) × (first ≡ prepend magic before)
    → (length number ≡ 4) × (before ≡ prepend number left) → a ≡ magic → b ≡ codes "LCH1"
    → true ≡ not (pointwise ◌==◌ a b)
    → IsHeadRead input (Err errors.Form) left
other_head input magic number a b first before left is one two a_is b_is other =
    let head = head_is input magic number first before left is one two in
    let d = differs input head.long (begins_as input magic number a b left false head a_is b_is
    (not_true (pointwise ◌==◌ a b) other)) in
    (d.0, head.left_is ∙ ap Some (sym d.1))

pub head_read : (input magic number a b : List ℕ) (count : ℕ) (first before left : Option (List ℕ))
    → first ≡ Some input → (length magic ≡ 4) × (first ≡ prepend magic before)
    → (length number ≡ 4) × (before ≡ prepend number left) → a ≡ magic → b ≡ codes "LCH1"
    → false ≡ not (pointwise ◌==◌ a b) → count ≡ from_be_bytes w32 number
    → IsHeadRead input (Ok count) left
head_read input magic number a b count first before left is one two a_is b_is same count_is =
    let head = head_is input magic number first before left is one two in (
      head.long,
      begins_as input magic number a b left true head a_is b_is
          (not_false (pointwise ◌==◌ a b) same),
      count_is ∙ ap (from_be_bytes w32) head.number_is,
      head.left_is,
    )

-- ---- the whole file

-- no head was read
pub unread : (input : List ℕ) (error : LightError) (left : Option (List ℕ))
    → IsHeadRead input (Err error) left → IsLightAnswer input (Err error) left
unread input errors.Form left read = read
unread input errors.Fault left read = read
unread input errors.Memory left read = read

too_few : (input : List ℕ) → 8 ≤ length input → has_magic input ≡ true
    → length (drop 8 input) < 64 * count_in input → (light_in input ≡ None)
    × (left_of_none input ≡ [])
unfolding light_in
too_few input long begins few = (
  rw (
    le-ltb (length input) 8 long,
    begins,
    lt-ltb (length (drop 8 input)) (64 * count_in input)
        few,
  ) refl,
  rw (le-ltb (length input) 8 long, begins) refl,
)

-- what is left at the end of what follows the head is the end of the input
whole_end : (input : List ℕ) (left : Option (List ℕ)) → IsEndOf (drop 8 input) left
    → IsEndOf input left
whole_end input left end = (
  take 8 input ++ end.0,
  end.1,
  sym (take-append-drop 8 input) ∙ ap (λ (rest : List ℕ). take 8 input ++ rest) end.2
      ∙ sym (append_assoc (take 8 input) end.0 end.1),
  end.3,
)

pub blocks_unread : (input : List ℕ) (count : ℕ) (error : LightError) (first left : Option (List ℕ))
    → IsHeadRead input (Ok count) first
    → HasStopped (64 * count) first error left → IsLightAnswer input (Err error) left
blocks_unread input count errors.Form first left head stopped =
    let s = stopped_short (64 * count) (drop 8 input) left
    (subst (λ (f : Option (List ℕ)). HasStopped (64 * count) f errors.Form left) head.3
    stopped) in
    let t = too_few input head.0 head.1 (omega (arith, s.0, head.2)) in
    (t.0, s.1 ∙ ap Some (sym t.1))
blocks_unread input count errors.Fault first left head stopped =
    whole_end input left (taken_end (drop 8 input) left
    (subst (λ (f : Option (List ℕ)). HasTaken f left) head.3 stopped))
blocks_unread input count errors.Memory first left head stopped =
    whole_end input left (taken_end (drop 8 input) left
    (subst (λ (f : Option (List ℕ)). HasTaken f left) head.3 stopped))

abbrev found : List BlockRoot → List ℕ → List BlockRoot × List ℕ
found file rest = (file, rest)

pub blocks_read : (input : List ℕ) (count : ℕ) (bytes : List ℕ) (first left : Option (List ℕ))
    (file : List BlockRoot) → IsHeadRead input (Ok count) first
    → length bytes ≡ 64 * count → first ≡ prepend bytes left → file ≡ block_roots_in count bytes
    → IsLightAnswer input (Ok file) left
blocks_read input count bytes first left file head size taken file_is =
    let a = taken_first (64 * count) (drop 8 input) bytes left size (sym head.3 ∙ taken) in
    let read : block_roots_in count (drop 8 input) ≡ file =
    ap (block_roots_in count) (sym (take-append-drop (64 * count) (drop 8 input))
    ∙ ap (λ (b : List ℕ). b ++ drop (64 * count) (drop 8 input)) (sym a.bytes_are))
    ∙ blocks_before count bytes (drop (64 * count) (drop 8 input)) size ∙ sym file_is in
    let enough : 64 * count_in input ≤ length (drop 8 input) = omega (arith, a.within, head.2) in (
      drop (64 * count) (drop 8 input),
      is_found input head.0 head.1 enough
          ∙ ap (λ (n : ℕ). Some (found (block_roots_in n (drop 8 input))
          (drop (64 * n) (drop 8 input)))) (sym head.2)
          ∙ ap (λ (f : List BlockRoot). Some (found f (drop (64 * count) (drop 8 input)))) read,
      a.left_is,
    )
