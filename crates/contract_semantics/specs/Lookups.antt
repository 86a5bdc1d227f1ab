-- What an evaluation looks up besides its reads, defined part by part beside the meaning of each
-- part.
use Rattle.std.specs.Prelude.{ℕ, ℤ, ◌-◌, nat_le, if◌then◌else◌, List, [], ◌∷◌, ◌++◌, Option, Some, None, Result, Ok, Err}
use Rattle.lc_base.specs.Parts.{question}
use Rattle.lc_base.specs.declared.answer.Query.{Query}
use Rattle.lc_base.specs.declared.answer.Kind.{Kind}
use Rattle.lc_base.specs.declared.answer.Kind.TheVariants.{Hist, Back, Fwd}
use Rattle.lc_base.specs.declared.value.Value.{Value}
use Rattle.lc_base.specs.declared.tx_status.TxStatus.{TxStatus}
use Rattle.contract_tree.specs.declared.builtin.Builtin.{Builtin}
use Rattle.contract_tree.specs.declared.builtin.Builtin.TheVariants as b
use Rattle.contract_tree.specs.Builtins.{builtin_of}
use Rattle.contract_tree.specs.Tree.{Tree, Trees, none, more}
use Rattle.contract_tree.specs.Tree as tree
use Rattle.dep_capture.specs.Captured.{Captured}
use Rattle.dep_capture.specs.Capture.{pending}
use Rattle.contract_semantics.specs.declared.charge.TheConstants.{CHARGE_NODE}
use Rattle.contract_semantics.specs.declared.variable.Variable.{Variable}
use Rattle.contract_semantics.specs.Charges.{charge_of}
use Rattle.contract_semantics.specs.Operators.{left_decision}
use Rattle.contract_semantics.specs.Scenes.{Scene}
use Rattle.contract_semantics.specs.Steps.{Machine, Step, Done, Failed, and_so}
use Rattle.contract_semantics.specs.Reading.{key_of_text}
use Rattle.contract_semantics.specs.Asking.{block_before}
use Rattle.contract_semantics.specs.Builtins.{one_text, text_and_int, text_and_ints}
use Rattle.contract_semantics.specs.Expressions.{value_of, values_of}

-- The questions that are asked about the rows of the blocks before, and the keys for which it is
-- checked whether the block has written them.
pub record Lookups : Type 0 where
  pub asked : List Query
  pub met : List (List ℕ)

-- Nothing is looked up.
abbrev pub no_lookups : Lookups
no_lookups = record { asked = []; met = [] }

-- One question is asked.
abbrev pub one_asked : Query → Lookups
one_asked query = record { asked = query ∷ []; met = [] }

-- It is checked whether the block has written one key.
abbrev pub one_met : List ℕ → Lookups
one_met key = record { asked = []; met = key ∷ [] }

-- The lookups of one part, then those of the next.
abbrev pub lookups_of_both : Lookups → Lookups → Lookups
lookups_of_both first next = record { asked = first.asked ++ next.asked; met = first.met ++ next.met }

-- The lookups of a step, then those of the next one if the first didn't fail.
abbrev pub then_lookups : {A : Type 0} → Lookups → Step A → (A → Machine → Lookups) → Lookups
then_lookups first (Done x m) next = lookups_of_both first (next x m)
then_lookups first (Failed status m) next = first

-- The lookups after a charge: none if the charge isn't taken.
abbrev pub charged_lookups : ℕ → Machine → (Machine → Lookups) → Lookups
charged_lookups charge m next =
    if nat_le charge m.left then next (record m { left = m.left - charge }) else no_lookups

-- ---- builtins

-- A read of a key looks it up, unless the transaction has put it.
abbrev pub unput_lookup : List ℕ → Option Value → Lookups
unput_lookup key None = one_met key
unput_lookup key (Some value) = no_lookups

-- The same, if the bytes are a key.
abbrev pub key_lookup : Result (List ℕ) TxStatus → Captured → Lookups
key_lookup (Ok key) c = unput_lookup key (pending c.puts key)
key_lookup (Err status) c = no_lookups

-- A read of the key that a text spells.
abbrev pub read_lookup : Option (List ℕ) → Captured → Lookups
read_lookup None c = no_lookups
read_lookup (Some text) c = key_lookup (key_of_text text) c

-- The question about the key that a text spells, up to a block before this one.
abbrev pub question_of : ℕ → Kind → List ℕ → ℤ → Result Query TxStatus
question_of number kind text at =
    and_so (key_of_text text)
    (λ key. and_so (block_before number at) (λ block. Ok (question kind key block)))

-- One question, if there is one.
abbrev pub question_lookup : Result Query TxStatus → Lookups
question_lookup (Ok query) = one_asked query
question_lookup (Err status) = no_lookups

-- The question for a text and a number.
abbrev pub version_lookup : ℕ → Kind → Option (List ℕ × ℤ) → Lookups
version_lookup number kind None = no_lookups
version_lookup number kind (Some arg) = question_lookup (question_of number kind arg.0 arg.1)

-- The question for a text and the first of two numbers.
abbrev pub item_lookup : ℕ → Kind → Option (List ℕ × (ℤ × ℤ)) → Lookups
item_lookup number kind None = no_lookups
item_lookup number kind (Some arg) = question_lookup (question_of number kind arg.0 arg.1.0)

-- The lookups of a builtin, in the block `number`.
abbrev pub builtin_lookups : ℕ → Builtin → List Value → Captured → Lookups
builtin_lookups number b.GetInt args c = read_lookup (one_text args) c
builtin_lookups number b.GetText args c = read_lookup (one_text args) c
builtin_lookups number b.Has args c = read_lookup (one_text args) c
builtin_lookups number b.Caller args c = no_lookups
builtin_lookups number b.Block args c = no_lookups
builtin_lookups number b.Len args c = no_lookups
builtin_lookups number b.Text args c = no_lookups
builtin_lookups number b.HistInt args c = version_lookup number Hist (text_and_int args)
builtin_lookups number b.HistText args c = version_lookup number Hist (text_and_int args)
builtin_lookups number b.HistBlock args c = version_lookup number Hist (text_and_int args)
builtin_lookups number b.HistTx args c = version_lookup number Hist (text_and_int args)
builtin_lookups number b.Seen args c = version_lookup number Hist (text_and_int args)
builtin_lookups number b.BackCount args c = version_lookup number Back (text_and_int args)
builtin_lookups number b.FwdCount args c = version_lookup number Fwd (text_and_int args)
builtin_lookups number b.BackKey args c = item_lookup number Back (text_and_ints args)
builtin_lookups number b.FwdKey args c = item_lookup number Fwd (text_and_ints args)
builtin_lookups number b.BackBlock args c = item_lookup number Back (text_and_ints args)
builtin_lookups number b.FwdBlock args c = item_lookup number Fwd (text_and_ints args)

-- A call of a builtin looks something up only once its charge is taken.
abbrev pub called_lookups : Scene → Option Builtin → List Value → Machine → Lookups
called_lookups s None args m = no_lookups
called_lookups s (Some builtin) args m =
    charged_lookups (charge_of builtin) m
    (λ m. builtin_lookups s.site.number builtin args m.capture)

-- A call of a builtin by its name.
unfoldable pub applied_lookups : Scene → List ℕ → List Value → Machine → Lookups
applied_lookups s name args m = called_lookups s (builtin_of name) args m

-- ---- expressions

-- The lookups of the right side of `&&` and `||`, unless the left one decides.
abbrev pub undecided_lookups : Option ℤ → Lookups → Lookups
undecided_lookups None rest = rest
undecided_lookups (Some z) rest = no_lookups

abbrev mutual
  -- The lookups of an expression.
  pub value_lookups : Scene → List Variable → Tree → Machine → Lookups
  value_lookups s variables (tree.Int at z) m = no_lookups
  value_lookups s variables (tree.Text at text) m = no_lookups
  value_lookups s variables (tree.Name at name) m = no_lookups
  value_lookups s variables (tree.Call at name args) m =
      charged_lookups CHARGE_NODE m
      (λ m. then_lookups (values_lookups s variables [] args m) (values_of s variables [] args m)
      (λ args m. applied_lookups s name args m))
  value_lookups s variables (tree.Prefix at sign operand) m =
      charged_lookups CHARGE_NODE m (λ m. value_lookups s variables operand m)
  value_lookups s variables (tree.Binary at sign left right) m =
      charged_lookups CHARGE_NODE m
      (λ m. then_lookups (value_lookups s variables left m) (value_of s variables left m)
      (λ first m. undecided_lookups (left_decision sign first) (value_lookups s variables right m)))

  -- The lookups of expressions, one after another, after those that are done.
  pub values_lookups : Scene → List Variable → List Value → Trees → Machine → Lookups
  values_lookups s variables done none m = no_lookups
  values_lookups s variables done (more x xs) m =
      then_lookups (value_lookups s variables x m) (value_of s variables x m)
      (λ value m. values_lookups s variables (done ++ value ∷ []) xs m)
