-- Words are one command or none: commands that differ have words that differ.
use Rattle.std.proofs.Common.{◌≡◌, ℕ, ◌<◌, ◌^◌, Bool, if◌then◌else◌, List, [], ◌∷◌, ◌++◌, Option, Some, None, refl, sym, ap, subst, ◌∙◌, arith}
use Rattle.std.specs.Prelude.{◌==◌}
use Rattle.std.specs.Cmp.Lexicographic.{pointwise}
use Rattle.std.proofs.lemmas.List.{append_assoc, append_cancel_left, same_from_push}
use Rattle.std.specs.Prelude.{decimal, codes, IfSome}
use Rattle.std.proofs.lemmas.Fmt.{decimal_injective}
use Rattle.hex.specs.Hex.{decode_of, encode_lower}
use Rattle.hex.proofs.HexLemmas.{decode_of-encode_lower}
use Rattle.lc_base.specs.declared.answer.Kind.{Kind}
use Rattle.lc_base.specs.declared.answer.Kind.TheVariants.{Hist, Back, Fwd}
use Rattle.lc_base.specs.declared.answer.Query.{Query}
use Rattle.lc_base.specs.declared.digest.Digest.{Digest}
use Rattle.cli_words.specs.declared.words.Edition.{Edition}
use Rattle.cli_words.specs.declared.words.Edition.TheVariants.{First, Second}
use Rattle.cli_words.specs.declared.words.BlockVersion.{BlockVersion}
use Rattle.cli_words.specs.declared.words.BlockVersion.TheVariants as versions
use Rattle.cli_words.specs.declared.words.Generation.{Generation}
use Rattle.cli_words.specs.declared.words.Command.{Command}
use Rattle.cli_words.specs.declared.words.Command.TheVariants.{Scan, Fmt, Pack, Gen, Load, Append}
use Rattle.cli_words.specs.declared.words.Command.TheVariants.{Follow, Upgrade, Root, Ask, Prove}
use Rattle.cli_words.specs.declared.words.Command.TheVariants.{Verify, Expose, MakeLight, Light}
use Rattle.cli_words.specs.declared.question.Question.{Question}
use Rattle.cli_words.specs.declared.question.Question.TheVariants.{Version, Ancestors, Between}
use Rattle.cli_words.specs.declared.question.Asked.TheVariants.{At, AtLast}
use Rattle.cli_words.specs.Words.{kind_word, query_words, fmt_words, pack_words}
use Rattle.cli_words.specs.Words.{generation_words, ask_words, root_words, prove_words}
use Rattle.cli_words.specs.Words.{verify_words, expose_words, lead_words, subject_words}
use Rattle.cli_words.specs.Words.{command_words}
use Rattle.cli_words.specs.Words.{IsQuery, IsGeneration, IsRootGiven, AreBlocks, IsQuestion}
use Rattle.cli_words.specs.Words.{Fits, CanBeGiven, IsCommand, IsOneCommand}

pub one_number : (m n : ℕ) → m < 2 ^ 32 → n < 2 ^ 32 → decimal m ≡ decimal n → m ≡ n
one_number m n small fits same =
    decimal_injective m n (omega (arith, small)) (omega (arith, fits)) same

abbrev first_byte : List ℕ → ℕ
first_byte [] = 0
first_byte (byte ∷ bytes) = byte

one_kind : (a b : Kind) → kind_word a ≡ kind_word b → a ≡ b
one_kind Hist Hist same = refl
one_kind Hist Back same = let first : 104 ≡ 98 = ap first_byte same in absurd (omega (arith, first))
one_kind Hist Fwd same = let first : 104 ≡ 102 = ap first_byte same in absurd (omega (arith, first))
one_kind Back Hist same = let first : 98 ≡ 104 = ap first_byte same in absurd (omega (arith, first))
one_kind Back Back same = refl
one_kind Back Fwd same = let first : 98 ≡ 102 = ap first_byte same in absurd (omega (arith, first))
one_kind Fwd Hist same = let first : 102 ≡ 104 = ap first_byte same in absurd (omega (arith, first))
one_kind Fwd Back same = let first : 102 ≡ 98 = ap first_byte same in absurd (omega (arith, first))
one_kind Fwd Fwd same = refl

one_query : (a b : Query) → IsQuery a → IsQuery b → query_words a ≡ query_words b → a ≡ b
one_query a b is_a is_b same =
    let kinds : kind_word a.kind ≡ kind_word b.kind = cc in
    let keys : a.key ≡ b.key = cc in
    let numbers : decimal a.at ≡ decimal b.at = cc in
    let kind_is = one_kind a.kind b.kind kinds in
    let at_is = one_number a.at b.at is_a.at_fits is_b.at_fits numbers in
    ap (λ (k : Kind). record { kind = k; key = a.key; at = a.at }) kind_is
    ∙ ap (λ (k : List ℕ). record { kind = b.kind; key = k; at = a.at }) keys
    ∙ ap (λ (n : ℕ). record { kind = b.kind; key = b.key; at = n }) at_is

one_generation : (word : List ℕ) (a b : Generation) → IsGeneration a → IsGeneration b
    → generation_words word a ≡ generation_words word b → a ≡ b
one_generation word a b is_a is_b same =
    let counts : decimal a.blocks ≡ decimal b.blocks = cc in
    let seeds : decimal a.seed ≡ decimal b.seed = cc in
    let blocks_are = one_number a.blocks b.blocks (omega (arith, is_a.count.1)) (omega (arith, is_b.count.1)) counts in
    let seed_is = one_number a.seed b.seed is_a.seed_fits is_b.seed_fits seeds in
    ap (λ (n : ℕ). record { blocks = n; seed = a.seed }) blocks_are ∙ ap (λ (n : ℕ). record { blocks = b.blocks; seed = n }) seed_is

one_root : (a b : Option ℕ) → Fits a → Fits b → root_words a ≡ root_words b → a ≡ b
one_root None None is_a is_b same = refl
one_root None (Some n) is_a is_b same = absurd cc
one_root (Some m) None is_a is_b same = absurd cc
one_root (Some m) (Some n) is_a is_b same =
    let numbers : decimal m ≡ decimal n = cc in ap Some (one_number m n is_a is_b numbers)

one_edition : (a b : Edition) → fmt_words a ≡ fmt_words b → a ≡ b
one_edition First First same = refl
one_edition First Second same = absurd cc
one_edition Second First same = absurd cc
one_edition Second Second same = refl

one_version : (a b : BlockVersion) → pack_words a ≡ pack_words b → a ≡ b
one_version versions.First versions.First same = refl
one_version versions.First versions.Second same = absurd cc
one_version versions.Second versions.First same = absurd cc
one_version versions.Second versions.Second same = refl

one_digest : (a b : Digest) → IsRootGiven a → IsRootGiven b → encode_lower a.0 ≡ encode_lower b.0
    → a ≡ b
one_digest a b is_a is_b same =
    let read = sym (decode_of-encode_lower a.0 is_a.bytes) ∙ ap decode_of same ∙ decode_of-encode_lower b.0 is_b.bytes in
    let bytes : a.0 ≡ b.0 = cc in
    ap (λ (bytes : List ℕ). record { 0 = bytes }) bytes

one_expose : (m n : Digest) (a b : Query) (i j : ℕ) → IsRootGiven m × IsQuery a × (i < 2 ^ 32)
    → IsRootGiven n × IsQuery b × (j < 2 ^ 32) → expose_words m a i ≡ expose_words n b j
    → Expose m a i ≡ Expose n b j
one_expose m n a b i j is_a is_b same =
    let roots : encode_lower m.0 ≡ encode_lower n.0 = cc in
    let kinds : kind_word a.kind ≡ kind_word b.kind = cc in
    let keys : a.key ≡ b.key = cc in
    let asked : decimal a.at ≡ decimal b.at = cc in
    let blocks : decimal i ≡ decimal j = cc in
    ap (λ (root : Digest). Expose root a i) (one_digest m n is_a.0 is_b.0 roots)
    ∙ ap (λ (q : Query). Expose n q i) (one_query a b is_a.1 is_b.1 cc)
    ∙ ap (Expose n b) (one_number i j is_a.2 is_b.2 blocks)

-- ---- questions

-- ranges have the same blocks if their words do
one_pair : {A : Type 0} (make : ℕ → ℕ → A) (i j m n : ℕ) → AreBlocks i m → AreBlocks j n
    → decimal i ≡ decimal j → decimal m ≡ decimal n → make i m ≡ make j n
one_pair make i j m n is_a is_b first last =
    let low : i < 2 ^ 32 = omega (arith, is_a.in_order, is_a.last_fits) in
    let other : j < 2 ^ 32 = omega (arith, is_b.in_order, is_b.last_fits) in
    ap (λ (from : ℕ). make from m) (one_number i j low other first)
    ∙ ap (make j) (one_number m n is_a.last_fits is_b.last_fits last)

one_between : (x y : List ℕ) (i j m n : ℕ) → AreBlocks i m → AreBlocks j n
    → x ∷ decimal i ∷ decimal m ∷ [] ≡ y ∷ decimal j ∷ decimal n ∷ []
    → Between x i m ≡ Between y j n
one_between x y i j m n is_a is_b same =
    let keys : x ≡ y = cc in
    let first : decimal i ≡ decimal j = cc in
    let last : decimal m ≡ decimal n = cc in
    ap (λ (key : List ℕ). Between key i m) keys
    ∙ one_pair (Between y) i j m n is_a is_b first last

one_ancestors : (x y : List ℕ) (i j : ℕ) → i < 2 ^ 32 → j < 2 ^ 32
    → x ∷ decimal i ∷ [] ≡ y ∷ decimal j ∷ [] → Ancestors x i ≡ Ancestors y j
one_ancestors x y i j is_a is_b same =
    let keys : x ≡ y = cc in
    let asked : decimal i ≡ decimal j = cc in
    ap (λ (key : List ℕ). Ancestors key i) keys ∙ ap (Ancestors y) (one_number i j is_a is_b asked)

-- the kind of a question
pub data Lead : Type 0 where
  OfVersion : Lead
  OfAncestors : Lead
  OfBetween : Lead

abbrev pub lead_of : Question → Lead
lead_of (Version query) = OfVersion
lead_of (Ancestors key at) = OfAncestors
lead_of (Between key from to) = OfBetween

-- a question of a kind is that of what it is about
abbrev HasLead : Lead → Question → Type 0
HasLead OfVersion question = (query : Query) × (question ≡ Version query)
HasLead OfAncestors question = (key : List ℕ) × (at : ℕ) × (question ≡ Ancestors key at)
HasLead OfBetween question =
    (key : List ℕ) × (from : ℕ) × (to : ℕ) × (question ≡ Between key from to)

has_lead : (question : Question) → HasLead (lead_of question) question
has_lead (Version query) = (query, refl)
has_lead (Ancestors key at) = (key, at, refl)
has_lead (Between key from to) = (key, from, to, refl)

abbrev AreOneAsked : Question → Question → Type 0
AreOneAsked a b = IsQuestion a → IsQuestion b → subject_words a ≡ subject_words b → a ≡ b

one_of_kind : (a b : Question) → HasLead (lead_of a) b → AreOneAsked a b
one_of_kind (Version a) b (q, is) = subst (AreOneAsked (Version a)) (sym is)
    (λ is_a is_b same. ap Version (one_query a q is_a is_b same))
one_of_kind (Ancestors x i) b (y, j, is) = subst (AreOneAsked (Ancestors x i)) (sym is)
    (λ is_a is_b same. one_ancestors x y i j is_a.1 is_b.1 same)
one_of_kind (Between x i m) b (y, j, n, is) = subst (AreOneAsked (Between x i m)) (sym is)
    (λ is_a is_b same. one_between x y i j m n is_a.1 is_b.1 same)

one_question : (a b : Question) → lead_of a ≡ lead_of b → AreOneAsked a b
one_question a b leads = one_of_kind a b
    (subst (λ (lead : Lead). HasLead lead b) (sym leads) (has_lead b))

-- the word with which the forms of a kind begin
abbrev pub lead_of_kind : Lead → List (List ℕ)
lead_of_kind OfVersion = []
lead_of_kind OfAncestors = codes "trace" ∷ []
lead_of_kind OfBetween = codes "range" ∷ []

lead_is : (question : Question) → lead_of_kind (lead_of question) ≡ lead_words question
lead_is (Version query) = refl
lead_is (Ancestors key at) = refl
lead_is (Between key from to) = refl

-- what follows it is the same in the same words
pub after_lead : (lead : Lead) (question : Question) (xs ys : List (List ℕ))
    → lead ≡ lead_of question → lead_of_kind lead ++ xs ≡ lead_words question ++ ys
    → (lead_of_kind lead ≡ lead_words question) × (xs ≡ ys)
after_lead lead question xs ys leads same =
    let is : lead_of_kind lead ≡ lead_words question = ap lead_of_kind leads ∙ lead_is question in (
      is,
      append_cancel_left (lead_words question) xs ys
          (ap (λ (l : List (List ℕ)). l ++ xs) (sym is) ∙ same),
    )

pub after_form : (lead : Lead) (question : Question) (xs ys us vs : List (List ℕ))
    → lead ≡ lead_of question
    → (lead_of_kind lead ++ xs) ++ us ≡ (lead_words question ++ ys) ++ vs
    → (lead_of_kind lead ≡ lead_words question) × (xs ++ us ≡ ys ++ vs)
after_form lead question xs ys us vs leads same =
    after_lead lead question (xs ++ us) (ys ++ vs) leads
    (sym (append_assoc (lead_of_kind lead) xs us) ∙ same ∙ append_assoc (lead_words question) ys vs)

after_leads : (a b : Question) (xs ys : List (List ℕ)) → lead_of a ≡ lead_of b
    → lead_words a ++ xs ≡ lead_words b ++ ys → xs ≡ ys
after_leads a b xs ys leads same = (after_lead (lead_of a) b xs ys leads
    (ap (λ (l : List (List ℕ)). l ++ xs) (lead_is a) ∙ same)).1

after_forms : (a b : Question) (xs ys us vs : List (List ℕ)) → lead_of a ≡ lead_of b
    → (lead_words a ++ xs) ++ us ≡ (lead_words b ++ ys) ++ vs → xs ++ us ≡ ys ++ vs
after_forms a b xs ys us vs leads same = (after_form (lead_of a) b xs ys us vs leads
    (ap (λ (l : List (List ℕ)). (l ++ xs) ++ us) (lead_is a) ∙ same)).1

one_prove : (a b : Question) (m n : ℕ) → lead_of a ≡ lead_of b → IsQuestion a × (m < 2 ^ 32)
    → IsQuestion b × (n < 2 ^ 32) → prove_words a m ≡ prove_words b n → Prove a m ≡ Prove b n
one_prove a b m n leads is_a is_b same =
    let word : List (List ℕ) = codes "prove" ∷ [] in
    let parts = same_from_push ((lead_words a ++ word) ++ subject_words a)
    ((lead_words b ++ word) ++ subject_words b) (decimal m) (decimal n) same in
    let forms = after_forms a b word word (subject_words a) (subject_words b) leads parts.0 in
    let subjects : subject_words a ≡ subject_words b = cc in
    ap (λ (q : Question). Prove q m) (one_question a b leads is_a.0 is_b.0 subjects)
    ∙ ap (Prove b) (one_number m n is_a.1 is_b.1 parts.1)

one_verify : (m n : Digest) (a b : Question) → lead_of a ≡ lead_of b → IsRootGiven m × IsQuestion a
    → IsRootGiven n × IsQuestion b → verify_words m a ≡ verify_words n b → Verify m a ≡ Verify n b
one_verify m n a b leads is_a is_b same =
    let forms = after_forms a b (codes "verify" ∷ encode_lower m.0 ∷ [])
    (codes "verify" ∷ encode_lower n.0 ∷ []) (subject_words a) (subject_words b) leads same in
    let roots : encode_lower m.0 ≡ encode_lower n.0 = cc in
    let subjects : subject_words a ≡ subject_words b = cc in
    ap (λ (root : Digest). Verify root a) (one_digest m n is_a.0 is_b.0 roots)
    ∙ ap (Verify n) (one_question a b leads is_a.1 is_b.1 subjects)

one_ask : (a b : Question) → lead_of a ≡ lead_of b → IsQuestion a → IsQuestion b
    → ask_words (At a) ≡ ask_words (At b) → Ask (At a) ≡ Ask (At b)
one_ask a b leads is_a is_b same =
    ap (λ (q : Question). Ask (At q)) (one_question a b leads is_a is_b (after_leads a b (subject_words a) (subject_words b) leads same))

one_last : (k l : Kind) (x y : List ℕ) → ask_words (AtLast k x) ≡ ask_words (AtLast l y)
    → Ask (AtLast k x) ≡ Ask (AtLast l y)
one_last k l x y same =
    let kinds : kind_word k ≡ kind_word l = cc in
    let keys : x ≡ y = cc in
    ap (λ (kind : Kind). Ask (AtLast kind x)) (one_kind k l kinds)
    ∙ ap (λ (key : List ℕ). Ask (AtLast l key)) keys

-- ---- the form of a command, which its words tell

pub data Form : Type 0 where
  IsScanForm : Form
  IsFmtForm : Form
  IsPackForm : Form
  IsGenForm : Form
  IsLoadForm : Form
  IsAppendForm : Form
  IsFollowForm : Form
  IsUpgradeForm : Form
  IsRootForm : Form
  IsAskForm : Lead → Form
  IsLastForm : Form
  IsProveForm : Lead → Form
  IsVerifyForm : Lead → Form
  IsExposeForm : Form
  IsMakeLightForm : Form
  IsLightForm : Form
  NoForm : Form

abbrev form_of : Command → Form
form_of (Scan query) = IsScanForm
form_of (Fmt edition) = IsFmtForm
form_of (Pack version) = IsPackForm
form_of (Gen generation) = IsGenForm
form_of (Load generation) = IsLoadForm
form_of Append = IsAppendForm
form_of Follow = IsFollowForm
form_of Upgrade = IsUpgradeForm
form_of (Root at) = IsRootForm
form_of (Ask (At question)) = IsAskForm (lead_of question)
form_of (Ask (AtLast kind key)) = IsLastForm
form_of (Prove question root_at) = IsProveForm (lead_of question)
form_of (Verify root question) = IsVerifyForm (lead_of question)
form_of (Expose root query root_at) = IsExposeForm
form_of MakeLight = IsMakeLightForm
form_of Light = IsLightForm

abbrev is_word : List ℕ → List ℕ → Bool
is_word word other = pointwise ◌==◌ word other

-- by what follows the word `trace`: a key and a block, or more, the first of which tells
abbrev trace_form : List (List ℕ) → Form
trace_form [] = NoForm
trace_form (word ∷ []) = NoForm
trace_form (word ∷ second ∷ []) = IsAskForm OfAncestors
trace_form (word ∷ second ∷ third ∷ others) =
    if is_word word (codes "prove") then IsProveForm OfAncestors else IsVerifyForm OfAncestors

-- by what follows the word `range`: a key and two blocks, or more, the first of which tells
abbrev range_form : List (List ℕ) → Form
range_form [] = NoForm
range_form (word ∷ []) = NoForm
range_form (word ∷ second ∷ []) = NoForm
range_form (word ∷ second ∷ third ∷ []) = IsAskForm OfBetween
range_form (word ∷ second ∷ third ∷ fourth ∷ others) =
    if is_word word (codes "prove") then IsProveForm OfBetween else IsVerifyForm OfBetween

-- by what follows a kind of question: a key, or a key and a block
abbrev kind_form : List (List ℕ) → Form
kind_form [] = NoForm
kind_form (key ∷ []) = IsLastForm
kind_form (key ∷ at ∷ others) = IsAskForm OfVersion

-- by what follows the word `light`: nothing, or the word `make`
abbrev light_form : List (List ℕ) → Form
light_form [] = IsLightForm
light_form (word ∷ others) = IsMakeLightForm

-- by the first word; what is none of these is a kind of question
abbrev form_by : List ℕ → List (List ℕ) → Form
form_by word others =
    if is_word word (codes "scan") then IsScanForm
    else (if is_word word (codes "fmt") then IsFmtForm
    else (if is_word word (codes "pack") then IsPackForm
    else (if is_word word (codes "gen") then IsGenForm
    else (if is_word word (codes "load") then IsLoadForm
    else (if is_word word (codes "append") then IsAppendForm
    else (if is_word word (codes "follow") then IsFollowForm
    else (if is_word word (codes "upgrade") then IsUpgradeForm
    else (if is_word word (codes "root") then IsRootForm
    else (if is_word word (codes "prove") then IsProveForm OfVersion
    else (if is_word word (codes "verify") then IsVerifyForm OfVersion
    else (if is_word word (codes "expose") then IsExposeForm
    else (if is_word word (codes "trace") then trace_form others
    else (if is_word word (codes "range") then range_form others
    else (if is_word word (codes "light") then light_form others
    else kind_form others))))))))))))))

abbrev pub form_in : List (List ℕ) → Form
form_in [] = NoForm
form_in (word ∷ others) = form_by word others

-- a kind of question is none of the other words
kind_is : (kind : Kind) (others : List (List ℕ))
    → form_in (kind_word kind ∷ others) ≡ kind_form others
kind_is Hist others = refl
kind_is Back others = refl
kind_is Fwd others = refl

pub form_is : (command : Command) → form_in (command_words command) ≡ form_of command
form_is (Scan query) = refl
form_is (Fmt First) = refl
form_is (Fmt Second) = refl
form_is (Pack versions.First) = refl
form_is (Pack versions.Second) = refl
form_is (Gen generation) = refl
form_is (Load generation) = refl
form_is Append = refl
form_is Follow = refl
form_is Upgrade = refl
form_is (Root None) = refl
form_is (Root (Some at)) = refl
form_is (Ask (At (Version query))) = kind_is query.kind (query.key ∷ decimal query.at ∷ [])
form_is (Ask (At (Ancestors key at))) = refl
form_is (Ask (At (Between key from to))) = refl
form_is (Ask (AtLast kind key)) = kind_is kind (key ∷ [])
form_is (Prove (Version query) root_at) = refl
form_is (Prove (Ancestors key at) root_at) = refl
form_is (Prove (Between key from to) root_at) = refl
form_is (Verify root (Version query)) = refl
form_is (Verify root (Ancestors key at)) = refl
form_is (Verify root (Between key from to)) = refl
form_is (Expose root query root_at) = refl
form_is MakeLight = refl
form_is Light = refl

-- a command of a form is that command
abbrev HasForm : Form → Command → Type 0
HasForm IsScanForm command = (query : Query) × (command ≡ Scan query)
HasForm IsFmtForm command = (edition : Edition) × (command ≡ Fmt edition)
HasForm IsPackForm command = (version : BlockVersion) × (command ≡ Pack version)
HasForm IsGenForm command = (generation : Generation) × (command ≡ Gen generation)
HasForm IsLoadForm command = (generation : Generation) × (command ≡ Load generation)
HasForm IsAppendForm command = command ≡ Append
HasForm IsFollowForm command = command ≡ Follow
HasForm IsUpgradeForm command = command ≡ Upgrade
HasForm IsRootForm command = (at : Option ℕ) × (command ≡ Root at)
HasForm (IsAskForm lead) command =
    (question : Question) × (lead ≡ lead_of question) × (command ≡ Ask (At question))
HasForm IsLastForm command = (kind : Kind) × (key : List ℕ) × (command ≡ Ask (AtLast kind key))
HasForm (IsProveForm lead) command = (question : Question) × (root_at : ℕ)
    × (lead ≡ lead_of question) × (command ≡ Prove question root_at)
HasForm (IsVerifyForm lead) command = (root : Digest) × (question : Question)
    × (lead ≡ lead_of question) × (command ≡ Verify root question)
HasForm IsExposeForm command =
    (root : Digest) × (query : Query) × (root_at : ℕ) × (command ≡ Expose root query root_at)
HasForm IsMakeLightForm command = command ≡ MakeLight
HasForm IsLightForm command = command ≡ Light
HasForm NoForm command = ⊥

has_form : (command : Command) → HasForm (form_of command) command
has_form (Scan query) = (query, refl)
has_form (Fmt edition) = (edition, refl)
has_form (Pack version) = (version, refl)
has_form (Gen generation) = (generation, refl)
has_form (Load generation) = (generation, refl)
has_form Append = refl
has_form Follow = refl
has_form Upgrade = refl
has_form (Root at) = (at, refl)
has_form (Ask (At question)) = (question, refl, refl)
has_form (Ask (AtLast kind key)) = (kind, key, refl)
has_form (Prove question root_at) = (question, root_at, refl, refl)
has_form (Verify root question) = (root, question, refl, refl)
has_form (Expose root query root_at) = (root, query, root_at, refl)
has_form MakeLight = refl
has_form Light = refl

-- ---- commands with the same words are one

abbrev AreOne : Command → Command → Type 0
AreOne a b = CanBeGiven a → CanBeGiven b → command_words a ≡ command_words b → a ≡ b

one_of_form : (a b : Command) → HasForm (form_of a) b → AreOne a b
one_of_form (Scan a) b (q, is) = subst (AreOne (Scan a)) (sym is)
    (λ is_a is_b same. ap Scan (one_query a q is_a is_b cc))
one_of_form (Fmt a) b (e, is) = subst (AreOne (Fmt a)) (sym is)
    (λ is_a is_b same. ap Fmt (one_edition a e same))
one_of_form (Pack a) b (v, is) = subst (AreOne (Pack a)) (sym is)
    (λ is_a is_b same. ap Pack (one_version a v same))
one_of_form (Gen a) b (g, is) = subst (AreOne (Gen a)) (sym is)
    (λ is_a is_b same. ap Gen (one_generation _ a g is_a is_b same))
one_of_form (Load a) b (g, is) = subst (AreOne (Load a)) (sym is)
    (λ is_a is_b same. ap Load (one_generation _ a g is_a is_b same))
one_of_form Append b is = subst (AreOne Append) (sym is) (λ is_a is_b same. refl)
one_of_form Follow b is = subst (AreOne Follow) (sym is) (λ is_a is_b same. refl)
one_of_form Upgrade b is = subst (AreOne Upgrade) (sym is) (λ is_a is_b same. refl)
one_of_form (Root a) b (at, is) = subst (AreOne (Root a)) (sym is)
    (λ is_a is_b same. ap Root (one_root a at is_a is_b same))
one_of_form (Ask (At a)) b (q, leads, is) = subst (AreOne (Ask (At a))) (sym is)
    (λ is_a is_b same. one_ask a q leads is_a is_b same)
one_of_form (Ask (AtLast k x)) b (l, y, is) = subst (AreOne (Ask (AtLast k x))) (sym is)
    (λ is_a is_b same. one_last k l x y same)
one_of_form (Prove a m) b (q, n, leads, is) = subst (AreOne (Prove a m)) (sym is)
    (λ is_a is_b same. one_prove a q m n leads is_a is_b same)
one_of_form (Verify m a) b (n, q, leads, is) = subst (AreOne (Verify m a)) (sym is)
    (λ is_a is_b same. one_verify m n a q leads is_a is_b same)
one_of_form (Expose m a i) b (n, q, j, is) = subst (AreOne (Expose m a i)) (sym is)
    (λ is_a is_b same. one_expose m n a q i j is_a is_b same)
one_of_form MakeLight b is = subst (AreOne MakeLight) (sym is) (λ is_a is_b same. refl)
one_of_form Light b is = subst (AreOne Light) (sym is) (λ is_a is_b same. refl)

one_given : (a b : Command) → AreOne a b
one_given a b is_a is_b same =
    let forms : form_of b ≡ form_of a = sym (form_is b) ∙ ap form_in (sym same) ∙ form_is a in
    one_of_form a b (subst (λ (form : Form). HasForm form b) forms (has_form b)) is_a is_b same

only_one : (words : List (List ℕ)) (command other : Option Command) → IsCommand words command
    → IsCommand words other → other ≡ command
only_one words None None is_a is_b = refl
only_one words None (Some b) is_a (can, is) = absurd (is_a b can is)
only_one words (Some a) None (can, is) is_b = absurd (is_b a can is)
only_one words (Some a) (Some b) (can_a, is_a) (can_b, is_b) =
    ap Some (one_given b a can_b can_a (sym is_b ∙ is_a))

pub one_command : (words : List (List ℕ)) (command : Option Command) → IsCommand words command
    → IsOneCommand words command
one_command words command is =
    record { is_command = is; only = λ other is_other. only_one words command other is is_other }

pub is_given : (words : List (List ℕ)) (command : Option Command) → IsCommand words command
    → IfSome command CanBeGiven
is_given words None is = tt
is_given words (Some command) is = is.0
