-- The words of commands, and what it means that words are a command.
use Rattle.std.specs.Prelude.{◌≡◌, ℕ, ◌<◌, ◌≤◌, ◌^◌, Bool, ◌&&◌, ◌||◌}
use Rattle.std.specs.Prelude.{◌==◌, nat_le, false, List, [], ◌∷◌, ◌++◌, length, Option, Some, None}
use Rattle.std.specs.Prelude.{codes, decimal}
use Rattle.hex.specs.Hex.{IsBytes, encode_lower}
use Rattle.lc_base.specs.KeyBytes.{IsKey}
use Rattle.lc_base.specs.declared.answer.Kind.{Kind}
use Rattle.lc_base.specs.declared.answer.Kind.TheVariants.{Hist, Back, Fwd}
use Rattle.lc_base.specs.declared.answer.Query.{Query}
use Rattle.lc_base.specs.declared.digest.Digest.{Digest}
use Rattle.cli_words.specs.declared.words.TheConstants.{MAX_GENERATED_BLOCKS}
use Rattle.cli_words.specs.declared.words.Edition.{Edition}
use Rattle.cli_words.specs.declared.words.Edition.TheVariants as editions
use Rattle.cli_words.specs.declared.words.BlockVersion.{BlockVersion}
use Rattle.cli_words.specs.declared.words.BlockVersion.TheVariants as versions
use Rattle.cli_words.specs.declared.words.Generation.{Generation}
use Rattle.cli_words.specs.declared.words.Command.{Command}
use Rattle.cli_words.specs.declared.words.Command.TheVariants.{Scan, Fmt, Pack, Gen, Load, Append}
use Rattle.cli_words.specs.declared.words.Command.TheVariants.{Follow, Upgrade, Root, Ask, Prove}
use Rattle.cli_words.specs.declared.words.Command.TheVariants.{Verify, Expose, MakeLight, Light}
use Rattle.cli_words.specs.declared.question.Question.{Question}
use Rattle.cli_words.specs.declared.question.Question.TheVariants.{Version, Ancestors, Between}
use Rattle.cli_words.specs.declared.question.Asked.{Asked}
use Rattle.cli_words.specs.declared.question.Asked.TheVariants.{At, AtLast}

-- The word for a kind of question.
abbrev pub kind_word : Kind → List ℕ
kind_word Hist = codes "hist"
kind_word Back = codes "back"
kind_word Fwd = codes "fwd"

-- The words of a question: KIND KEY BLOCK, BLOCK in decimal digits without a leading zero.
abbrev pub query_words : Query → List (List ℕ)
query_words query = kind_word query.kind ∷ query.key ∷ decimal query.at ∷ []

-- The words of a scan: scan KIND KEY BLOCK.
abbrev pub scan_words : Query → List (List ℕ)
scan_words query = codes "scan" ∷ query_words query

-- A question that can be asked: about a key, at a block number of 32 bits.
pub record IsQuery (query : Query) : Type 0 where
  pub key_is_key : IsKey query.key
  pub at_fits : query.at < 2 ^ 32

-- The words of the command that prints a contract's canonical text: fmt for a contract of the first
-- edition, fmt 2 for one of the second.
abbrev pub fmt_words : Edition → List (List ℕ)
fmt_words editions.First = codes "fmt" ∷ []
fmt_words editions.Second = codes "fmt" ∷ codes "2" ∷ []

-- The words of the command that prints a draft's block file: pack for blocks of the first version,
-- pack 2 for blocks of the second.
abbrev pub pack_words : BlockVersion → List (List ℕ)
pack_words versions.First = codes "pack" ∷ []
pack_words versions.Second = codes "pack" ∷ codes "2" ∷ []

-- The words of a generation: WORD N SEED, both numbers in decimal digits without a leading zero.
abbrev pub generation_words : List ℕ → Generation → List (List ℕ)
generation_words word generation = word ∷ decimal generation.blocks ∷ decimal generation.seed ∷ []

-- A number of blocks that may be made at once.
abbrev pub IsCount : ℕ → Type 0
IsCount blocks = (0 < blocks) × (blocks ≤ MAX_GENERATED_BLOCKS)

-- A generation that can be made: of such a number of blocks, from a seed of 32 bits.
pub record IsGeneration (generation : Generation) : Type 0 where
  pub count : IsCount generation.blocks
  pub seed_fits : generation.seed < 2 ^ 32

-- The word with which the forms of a kind of question begin; a question about a version has none.
abbrev pub lead_words : Question → List (List ℕ)
lead_words (Version query) = []
lead_words (Ancestors key at) = codes "trace" ∷ []
lead_words (Between key from to) = codes "range" ∷ []

-- The words that name what a question is about: KIND KEY BLOCK, KEY BLOCK or KEY FROM TO, its
-- blocks in decimal digits without a leading zero.
abbrev pub subject_words : Question → List (List ℕ)
subject_words (Version query) = query_words query
subject_words (Ancestors key at) = key ∷ decimal at ∷ []
subject_words (Between key from to) = key ∷ decimal from ∷ decimal to ∷ []

-- The words of a question over the log: KIND KEY BLOCK, trace KEY BLOCK or range KEY FROM TO.
abbrev pub question_words : Question → List (List ℕ)
question_words question = lead_words question ++ subject_words question

-- The words of a form with a verb and its arguments, about a question: VERB ARGS KIND KEY BLOCK,
-- trace VERB ARGS KEY BLOCK or range VERB ARGS KEY FROM TO.
abbrev pub form_words : List ℕ → List (List ℕ) → Question → List (List ℕ)
form_words verb args question = lead_words question ++ verb ∷ args ++ subject_words question

-- The words of what is asked of the log: those of a question, or KIND KEY.
abbrev pub ask_words : Asked → List (List ℕ)
ask_words (At question) = question_words question
ask_words (AtLast kind key) = kind_word kind ∷ key ∷ []

-- The words of the command for a root: root, or root BLOCK, BLOCK in decimal digits without a
-- leading zero.
abbrev pub root_words : Option ℕ → List (List ℕ)
root_words None = codes "root" ∷ []
root_words (Some at) = codes "root" ∷ decimal at ∷ []

-- The words of the command for a proof: the form of the verb prove, and then ROOTBLOCK, in decimal
-- digits without a leading zero.
abbrev pub prove_words : Question → ℕ → List (List ℕ)
prove_words question root_at = form_words (codes "prove") [] question ++ decimal root_at ∷ []

-- The words of the command that verifies a proof: the form of the verb verify, with ROOT in
-- lower-case hex.
abbrev pub verify_words : Digest → Question → List (List ℕ)
verify_words root question = form_words (codes "verify") (encode_lower root.0 ∷ []) question

-- The words of the command for the first clash with a proof: expose ROOT KIND KEY BLOCK ROOTBLOCK,
-- ROOT in lower-case hex, both numbers in decimal digits without a leading zero.
abbrev pub expose_words : Digest → Query → ℕ → List (List ℕ)
expose_words root query root_at = codes "expose" ∷ encode_lower root.0 ∷ kind_word query.kind ∷ query.key ∷ decimal query.at ∷ decimal root_at ∷ []

-- The words of the command that prints a light file: light make.
abbrev pub make_light_words : List (List ℕ)
make_light_words = codes "light" ∷ codes "make" ∷ []

-- The word of the command that checks proofs by a light file: light.
abbrev pub light_words : List (List ℕ)
light_words = codes "light" ∷ []

-- The first block and the last one of a range, in this order: numbers of 32 bits.
pub record AreBlocks (from to : ℕ) : Type 0 where
  pub in_order : from ≤ to
  pub last_fits : to < 2 ^ 32

-- A question that can be asked: about a key, at block numbers of 32 bits, of which the first isn't
-- after the last one.
abbrev pub IsQuestion : Question → Type 0
IsQuestion (Version query) = IsQuery query
IsQuestion (Ancestors key at) = IsKey key × (at < 2 ^ 32)
IsQuestion (Between key from to) = IsKey key × AreBlocks from to

-- What can be asked of the log: such a question, or one about a key.
abbrev pub IsAsked : Asked → Type 0
IsAsked (At question) = IsQuestion question
IsAsked (AtLast kind key) = IsKey key

-- A root that words can spell: 32 bytes.
pub record IsRootGiven (root : Digest) : Type 0 where
  pub length_is : length root.0 ≡ 32
  pub bytes : IsBytes root.0

-- The block number of a command for a root has 32 bits, if it has one.
abbrev pub Fits : Option ℕ → Type 0
Fits None = Unit {0}
Fits (Some at) = at < 2 ^ 32

-- The words of a command.
abbrev pub command_words : Command → List (List ℕ)
command_words (Scan query) = scan_words query
command_words (Fmt edition) = fmt_words edition
command_words (Pack version) = pack_words version
command_words (Gen generation) = generation_words (codes "gen") generation
command_words (Load generation) = generation_words (codes "load") generation
command_words Append = codes "append" ∷ []
command_words Follow = codes "follow" ∷ []
command_words Upgrade = codes "upgrade" ∷ []
command_words (Root at) = root_words at
command_words (Ask asked) = ask_words asked
command_words (Prove question root_at) = prove_words question root_at
command_words (Verify root question) = verify_words root question
command_words (Expose root query root_at) = expose_words root query root_at
command_words MakeLight = make_light_words
command_words Light = light_words

-- A command that words can spell: its questions can be asked, its numbers have 32 bits, its roots
-- have 32 bytes, and a generation makes a number of blocks that may be made at once.
abbrev pub CanBeGiven : Command → Type 0
CanBeGiven (Scan query) = IsQuery query
CanBeGiven (Fmt edition) = Unit {0}
CanBeGiven (Pack version) = Unit {0}
CanBeGiven (Gen generation) = IsGeneration generation
CanBeGiven (Load generation) = IsGeneration generation
CanBeGiven Append = Unit {0}
CanBeGiven Follow = Unit {0}
CanBeGiven Upgrade = Unit {0}
CanBeGiven (Root at) = Fits at
CanBeGiven (Ask asked) = IsAsked asked
CanBeGiven (Prove question root_at) = IsQuestion question × (root_at < 2 ^ 32)
CanBeGiven (Verify root question) = IsRootGiven root × IsQuestion question
CanBeGiven (Expose root query root_at) = IsRootGiven root × IsQuery query × (root_at < 2 ^ 32)
CanBeGiven MakeLight = Unit {0}
CanBeGiven Light = Unit {0}

-- The command that the words are, or None if no command has these words.
abbrev pub IsCommand : List (List ℕ) → Option Command → Type 0
IsCommand words (Some command) = CanBeGiven command × (words ≡ command_words command)
IsCommand words None = (command : Command) → CanBeGiven command → words ≡ command_words command → ⊥

-- The words are this command, or none, and no other.
pub record IsOneCommand (words : List (List ℕ)) (command : Option Command) : Type 0 where
  pub is_command : IsCommand words command
  pub only : (other : Option Command) → IsCommand words other → other ≡ command

-- ---- single commands

-- The question that the words are; None if they are no question.
abbrev pub IsQueryOf : List (List ℕ) → Option Query → Type 0
IsQueryOf words (Some query) = IsQuery query × (words ≡ query_words query)
IsQueryOf words None = (query : Query) → IsQuery query → words ≡ query_words query → ⊥

-- The question of a scan; None if the words are not those of a scan.
abbrev pub IsScan : List (List ℕ) → Option Query → Type 0
IsScan words (Some query) = IsQuery query × (words ≡ scan_words query)
IsScan words None = (query : Query) → IsQuery query → words ≡ scan_words query → ⊥

-- The edition of `fmt`; None if the words are not those of `fmt`.
abbrev pub IsFmt : List (List ℕ) → Option Edition → Type 0
IsFmt words (Some edition) = words ≡ fmt_words edition
IsFmt words None = (edition : Edition) → words ≡ fmt_words edition → ⊥

-- The version of `pack`; None if the words are not those of `pack`.
abbrev pub IsPack : List (List ℕ) → Option BlockVersion → Type 0
IsPack words (Some version) = words ≡ pack_words version
IsPack words None = (version : BlockVersion) → words ≡ pack_words version → ⊥

-- The blocks of a generation; None if the words are not those of one that begin with this word.
abbrev pub IsGenerationOf : List ℕ → List (List ℕ) → Option Generation → Type 0
IsGenerationOf word words (Some generation) =
    IsGeneration generation × (words ≡ generation_words word generation)
IsGenerationOf word words None = (generation : Generation) → IsGeneration generation → words ≡ generation_words word generation → ⊥

-- The question that begins with these words and is about what the others name; None if there is
-- none.
abbrev pub IsNamedBy : List (List ℕ) → List (List ℕ) → Option Question → Type 0
IsNamedBy lead subject (Some question) = IsQuestion question × (lead ≡ lead_words question)
    × (subject ≡ subject_words question)
IsNamedBy lead subject None = (question : Question) → IsQuestion question
    → lead ≡ lead_words question → subject ≡ subject_words question → ⊥

-- What is asked of the log; None if the words are not those of a question over it.
abbrev pub IsAsk : List (List ℕ) → Option Asked → Type 0
IsAsk words (Some asked) = IsAsked asked × (words ≡ ask_words asked)
IsAsk words None = (asked : Asked) → IsAsked asked → words ≡ ask_words asked → ⊥

-- The command for a root; None if the words are not those of one.
abbrev pub IsRoot : List (List ℕ) → Option Command → Type 0
IsRoot words (Some command) = CanBeGiven command × (words ≡ command_words command)
IsRoot words None = (at : Option ℕ) → Fits at → words ≡ root_words at → ⊥

-- The command for a proof about a question, for the root at the block that a text spells; None if
-- there is no question, or the text spells none.
abbrev pub IsProveAt : Option Question → List ℕ → Option Command → Type 0
IsProveAt (Some question) text (Some command) = (root_at : ℕ) × (root_at < 2 ^ 32)
    × (text ≡ decimal root_at) × (command ≡ Prove question root_at)
IsProveAt (Some question) text None =
    (root_at : ℕ) → root_at < 2 ^ 32 → text ≡ decimal root_at → ⊥
IsProveAt None text command = command ≡ None

-- The command for a proof; None if the words are not those of one.
abbrev pub IsProve : List (List ℕ) → Option Command → Type 0
IsProve words (Some command) = CanBeGiven command × (words ≡ command_words command)
IsProve words None = (question : Question) (root_at : ℕ) → IsQuestion question → root_at < 2 ^ 32
    → words ≡ prove_words question root_at → ⊥

-- The command that verifies a proof about a question under the root that a text spells; None if
-- there is no question, or the text spells none.
abbrev pub IsVerifyUnder : List ℕ → Option Question → Option Command → Type 0
IsVerifyUnder text (Some question) (Some command) = (root : Digest) × IsRootGiven root
    × (text ≡ encode_lower root.0) × (command ≡ Verify root question)
IsVerifyUnder text (Some question) None =
    (root : Digest) → IsRootGiven root → text ≡ encode_lower root.0 → ⊥
IsVerifyUnder text None command = command ≡ None

-- The command that verifies a proof; None if the words are not those of one.
abbrev pub IsVerify : List (List ℕ) → Option Command → Type 0
IsVerify words (Some command) = CanBeGiven command × (words ≡ command_words command)
IsVerify words None = (root : Digest) (question : Question) → IsRootGiven root
    → IsQuestion question → words ≡ verify_words root question → ⊥

-- The command for the first clash with a proof; None if the words are not those of one.
abbrev pub IsExpose : List (List ℕ) → Option Command → Type 0
IsExpose words (Some command) = CanBeGiven command × (words ≡ command_words command)
IsExpose words None = (root : Digest) (query : Query) (root_at : ℕ) → IsRootGiven root → IsQuery query → root_at < 2 ^ 32 → words ≡ expose_words root query root_at → ⊥

-- The command of a light file; None if the words are not those of one.
abbrev pub IsLight : List (List ℕ) → Option Command → Type 0
IsLight words (Some command) = CanBeGiven command × (words ≡ command_words command)
IsLight words None = (words ≡ make_light_words → ⊥) × (words ≡ light_words → ⊥)

-- The command that is a word alone; None if the words are not one of these.
abbrev pub IsAlone : List (List ℕ) → Option Command → Type 0
IsAlone words (Some command) = CanBeGiven command × (words ≡ command_words command)
IsAlone words None = (words ≡ command_words Append → ⊥) × (words ≡ command_words Follow → ⊥)
    × (words ≡ command_words Upgrade → ⊥)

-- ---- single words

-- Whether a text is `0`, or begins with a digit from 1 to 9.
abbrev pub starts_as_number : List ℕ → Bool
starts_as_number [] = false
starts_as_number (first ∷ others) =
    first == 48 && length others == 0 || nat_le 49 first && nat_le first 57

-- The number that a text spells; None if it spells no number of 32 bits.
abbrev pub IsNumberOf : List ℕ → Option ℕ → Type 0
IsNumberOf text (Some number) = (number < 2 ^ 32) × (text ≡ decimal number)
IsNumberOf text None = (number : ℕ) → number < 2 ^ 32 → text ≡ decimal number → ⊥

-- The number of blocks that a text spells; None if it spells none that may be made at once.
abbrev pub IsCountOf : List ℕ → Option ℕ → Type 0
IsCountOf text (Some blocks) = IsCount blocks × (text ≡ decimal blocks)
IsCountOf text None = (blocks : ℕ) → IsCount blocks → text ≡ decimal blocks → ⊥

-- The first block and the last one of a range that two texts spell; None if they spell none.
abbrev pub AreBlocksOf : List ℕ → List ℕ → Option (ℕ × ℕ) → Type 0
AreBlocksOf first last (Some blocks) =
    AreBlocks blocks.0 blocks.1 × (first ≡ decimal blocks.0) × (last ≡ decimal blocks.1)
AreBlocksOf first last None =
    (from to : ℕ) → AreBlocks from to → first ≡ decimal from → last ≡ decimal to → ⊥

-- The key that a text is; None if it is no key.
abbrev pub IsKeyOf : List ℕ → Option (List ℕ) → Type 0
IsKeyOf text (Some key) = IsKey key × (text ≡ key)
IsKeyOf text None = IsKey text → ⊥

-- The digest that a text spells in lower-case hex; None if it spells none.
abbrev pub IsDigestOf : List ℕ → Option Digest → Type 0
IsDigestOf text (Some digest) = IsRootGiven digest × (text ≡ encode_lower digest.0)
IsDigestOf text None = (digest : Digest) → IsRootGiven digest → text ≡ encode_lower digest.0 → ⊥

-- The kind that a text names; None if it names none.
abbrev pub IsKindOf : List ℕ → Option Kind → Type 0
IsKindOf text (Some kind) = text ≡ kind_word kind
IsKindOf text None = (kind : Kind) → text ≡ kind_word kind → ⊥
