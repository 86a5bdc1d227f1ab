-- The laws of light files.
use Rattle.std.proofs.Common.{
  ◌≡◌,
  ◌==◌,
  inl,
  inr,
  ℕ,
  ◌*◌,
  ◌^◌,
  ◌<◌,
  ◌≤◌,
  Bool,
  true,
  false,
  List,
  ◌++◌,
  length,
  take,
  drop,
  refl,
  sym,
  ap,
  subst,
  ◌∙◌,
  arith,
}
use Rattle.std.specs.Prelude.{Option, Some, None, nat_lt, if◌then◌else◌, codes}
use Rattle.std.specs.List.{flat_map, All}
use Rattle.std.specs.Int.{w32, to_be_bytes}
use Rattle.std.specs.Cmp.Lexicographic.{pointwise}
use Rattle.std.proofs.lemmas.Bool.{ltb-true, ltb-false, lt-ltb, le-ltb}
use Rattle.std.proofs.lemmas.Slice.Eq.{bytes_eq-Decides}
use Rattle.std.proofs.lemmas.List.{
  append_assoc,
  drop_at,
  drop-take,
  take-append-drop,
  take-take,
  length-append,
  length-drop,
  length-take-le,
}
use Rattle.byte_fields.specs.Spelling.{IsBytes}
use Rattle.byte_fields.proofs.Pieces.{wide32, IsBytes-drop, IsBytes-take}
use Rattle.light_client.specs.declared.block_root.BlockRoot.{BlockRoot}
use Rattle.light_client.specs.Format.{head_bytes, block_root_bytes, light_bytes, block_roots_in}
use Rattle.light_client.specs.Format.{has_magic, count_in, light_in}
use Rattle.light_client.specs.FileLaws.{IsBlockRoot, WrittenFilesAreRead, ReadFilesAreWritten}
use Rattle.light_client.specs.FileLaws.{HasNoFile, UnreadInputsAreShortOrDiffer}
use Rattle.light_client.proofs.BlockRoots.{length-block_roots, length-block_bytes, blocks_again}
use Rattle.light_client.proofs.BlockRoots.{blocks_back, blocks_are}

same_bytes : (a b : List ℕ) → pointwise ◌==◌ a b ≡ true → a ≡ b
same_bytes a b same = (bytes_eq-Decides a b).0 same

abbrev Parts : Type 0
Parts = List BlockRoot × List ℕ

abbrev parts : List BlockRoot → List ℕ → Parts
parts file rest = (file, rest)

-- what was read, and how it was found
pub record IsFound (input : List ℕ) (file : List BlockRoot) (rest : List ℕ) : Type 0 where
  pub long : 8 ≤ length input
  pub begins : has_magic input ≡ true
  pub enough : 64 * count_in input ≤ length (drop 8 input)
  pub file_is : file ≡ block_roots_in (count_in input) (drop 8 input)
  pub rest_is : rest ≡ drop (64 * count_in input) (drop 8 input)

-- what is at the start of an input, by its three tests: too short for a head, a head that begins
-- so, and too few bytes after it
abbrev by_tests : Bool → Bool → Bool → List ℕ → Option Parts
by_tests short begins few input =
    if short then None
    else (if begins then (if few then None else Some
    (block_roots_in (count_in input) (drop 8 input), drop (64 * count_in input) (drop 8 input)))
    else None)

unwrapped : (x y : Parts) → Some x ≡ Some y → x ≡ y
unwrapped x y is = cc is

found_by : (short begins few : Bool) (input : List ℕ) (file : List BlockRoot) (rest : List ℕ)
    → nat_lt (length input) 8 ≡ short → has_magic input ≡ begins
    → nat_lt (length (drop 8 input)) (64 * count_in input) ≡ few
    → by_tests short begins few input ≡ Some (file, rest) → IsFound input file rest
found_by true begins few input file rest s b f is = absurd (cc is)
found_by false false few input file rest s b f is = absurd (cc is)
found_by false true true input file rest s b f is = absurd (cc is)
found_by false true false input file rest s b f is =
    let same = unwrapped (parts (block_roots_in (count_in input) (drop 8 input))
    (drop (64 * count_in input) (drop 8 input))) (parts file rest) is in
    record {
      long = ltb-false (length input) 8 s;
      begins = b;
      enough = ltb-false (length (drop 8 input)) (64 * count_in input) f;
      file_is = sym (ap (λ (p : Parts). p.0) same);
      rest_is = sym (ap (λ (p : Parts). p.1) same);
    }

pub found_is : (input : List ℕ) (file : List BlockRoot) (rest : List ℕ)
    → light_in input ≡ Some (file, rest) → IsFound input file rest
unfolding light_in
found_is input file rest is =
    found_by (nat_lt (length input) 8) (has_magic input)
    (nat_lt (length (drop 8 input)) (64 * count_in input)) input file rest refl refl refl is

-- a file is found if the three tests pass
pub is_found : (input : List ℕ) → 8 ≤ length input → has_magic input ≡ true
    → 64 * count_in input ≤ length (drop 8 input)
    → light_in input ≡ Some (
      block_roots_in (count_in input) (drop 8 input),
      drop (64 * count_in input) (drop 8 input),
    )
unfolding light_in
is_found input long begins enough =
    rw (
      le-ltb (length input) 8 long,
      begins,
      le-ltb (length (drop 8 input)) (64 * count_in input)
          enough,
    ) refl

-- ---- what is written is read

pub written_files_are_read : WrittenFilesAreRead
written_files_are_read file more all few =
    let input = light_bytes file ++ more in
    let blocks = flat_map block_root_bytes file in
    let count_is : count_in input ≡ length file = wide32.again (length file) few in
    let size = length-block_bytes file all in
    let enough : 64 * length file ≤ length (blocks ++ more) =
    omega (arith, size, length-append blocks more) in
    is_found input (omega arith) refl (subst (λ (n : ℕ). 64 * n ≤ length (blocks ++ more))
    (sym count_is) enough)
    ∙ ap (λ (n : ℕ). Some (parts (block_roots_in n (blocks ++ more))
    (drop (64 * n) (blocks ++ more)))) count_is
    ∙ ap (λ (read : List BlockRoot). Some (parts read (drop (64 * length file) (blocks ++ more))))
    (blocks_again file more all)
    ∙ ap (λ (rest : List ℕ). Some (parts file rest)) (drop_at blocks more (64 * length file) size)

-- ---- what is read was so written

head_back : (input : List ℕ) → IsBytes input → 8 ≤ length input → has_magic input ≡ true
    → head_bytes (count_in input) ≡ take 8 input
head_back input fits long begins =
    let magic : take 4 input ≡ codes "LCH1" = same_bytes (take 4 input) (codes "LCH1") begins in
    let number = take 4 (drop 4 input) in
    let size : length number ≡ 4 =
    length-take-le 4 (drop 4 input) (omega (arith, long, length-drop 4 input)) in
    let back : to_be_bytes w32 (count_in input) ≡ number =
    wide32.back number size (IsBytes-take 4 (drop 4 input) (IsBytes-drop 4 input fits)) in
    ap (λ (bytes : List ℕ). codes "LCH1" ++ bytes) back
    ∙ ap (λ (bytes : List ℕ). bytes ++ number) (sym magic)
    ∙ ap (λ (bytes : List ℕ). bytes ++ number) (sym (take-take 4 8 input (omega arith)))
    ∙ ap (λ (bytes : List ℕ). take 4 (take 8 input) ++ bytes) (sym (drop-take 4 4 input))
    ∙ take-append-drop 4 (take 8 input)

pub read_files_are_written : ReadFilesAreWritten
read_files_are_written input file rest fits is =
    let f = found_is input file rest is in
    let count = count_in input in
    let blocks = drop 8 input in
    let length_is : length file ≡ count = ap (length {A = BlockRoot}) f.file_is
    ∙ length-block_roots count blocks in
    let head : head_bytes (length file) ≡ take 8 input = ap head_bytes length_is
    ∙ head_back input fits f.long f.begins in
    let back : flat_map block_root_bytes file ++ rest ≡ blocks =
    ap (λ (read : List BlockRoot). flat_map block_root_bytes read ++ rest) f.file_is
    ∙ ap (λ (after : List ℕ). flat_map block_root_bytes (block_roots_in count blocks) ++ after)
    f.rest_is
    ∙ blocks_back count blocks in
    let whole : light_bytes file ++ rest ≡ input =
    append_assoc (head_bytes (length file)) (flat_map block_root_bytes file) rest
    ∙ ap (λ (after : List ℕ). head_bytes (length file) ++ after) back
    ∙ ap (λ (before : List ℕ). before ++ blocks) head
    ∙ take-append-drop 8 input in
    let lawful : All IsBlockRoot file =
    subst (All IsBlockRoot) (sym f.file_is) (λ k d less. blocks_are count blocks f.enough k d
    (omega (arith, less, length-block_roots count blocks))) in
    let few : length file < 2 ^ 32 =
    subst (λ (n : ℕ). n < 2 ^ 32) (sym length_is)
    (wide32.below (take 4 (drop 4 input))
    (IsBytes-take 4 (drop 4 input) (IsBytes-drop 4 input fits))) in
    (sym whole, lawful, few)

-- ---- what else an input may be

unread_by : (short begins few : Bool) (input : List ℕ)
    → nat_lt (length input) 8 ≡ short → has_magic input ≡ begins
    → nat_lt (length (drop 8 input)) (64 * count_in input) ≡ few
    → by_tests short begins few input ≡ None → HasNoFile input
unread_by true begins few input s b f is = inl (ltb-true (length input) 8 s)
unread_by false false few input s b f is =
    inr (inl (λ same. absurd (cc (sym b
    ∙ ap (λ (bytes : List ℕ). pointwise ◌==◌ bytes (codes "LCH1")) same))))
unread_by false true true input s b f is =
    inr (inr (ltb-true (length (drop 8 input)) (64 * count_in input) f))
unread_by false true false input s b f is = absurd (cc is)

differs_by : (short begins few : Bool) (input : List ℕ) → has_magic input ≡ begins
    → (take 4 input ≡ codes "LCH1" → ⊥) → by_tests short begins few input ≡ None
differs_by true begins few input b other = refl
differs_by false false few input b other = refl
differs_by false true few input b other =
    absurd (other (same_bytes (take 4 input) (codes "LCH1") b))

few_by : (short begins few : Bool) (input : List ℕ) → few ≡ true
    → by_tests short begins few input ≡ None
few_by true begins few input is = refl
few_by false false few input is = refl
few_by false true few input is = rw is refl

pub unread_inputs_are_short_or_differ : UnreadInputsAreShortOrDiffer
unfolding light_in
unread_inputs_are_short_or_differ input =
    let short = nat_lt (length input) 8 in
    let few = nat_lt (length (drop 8 input)) (64 * count_in input) in (
      (λ is. unread_by short (has_magic input) few input refl refl refl is),
      (λ has. elim has [
        | inl is ↦ rw (lt-ltb (length input) 8 is) refl
        | inr others ↦ elim others [
          | inl other ↦ differs_by short (has_magic input) few input refl other
          | inr is ↦ few_by short (has_magic input) few input
              (lt-ltb (length (drop 8 input)) (64 * count_in input) is)
        ]
      ]),
    )
