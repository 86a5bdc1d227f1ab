-- The functions that every contract may call: their names, parameters and kinds.
use Rattle.std.specs.Prelude.{ℕ, Bool, ◌==◌, List, [], ◌∷◌, Option, is_some, codes, find}
use Rattle.std.specs.Cmp.Lexicographic.{pointwise}
use Rattle.contract_tree.specs.declared.tree.ValueKind.{ValueKind}
use Rattle.contract_tree.specs.declared.tree.ValueKind.TheVariants.{Int, Text}
use Rattle.contract_tree.specs.declared.builtin.Builtin.{Builtin}
use Rattle.contract_tree.specs.declared.builtin.Builtin.TheVariants as b

-- The name of a builtin.
abbrev pub builtin_name : Builtin → List ℕ
builtin_name b.GetInt = codes "get_int"
builtin_name b.GetText = codes "get_text"
builtin_name b.Has = codes "has"
builtin_name b.Caller = codes "caller"
builtin_name b.Block = codes "block"
builtin_name b.Len = codes "len"
builtin_name b.Text = codes "text"
builtin_name b.HistInt = codes "hist_int"
builtin_name b.HistText = codes "hist_text"
builtin_name b.HistBlock = codes "hist_block"
builtin_name b.HistTx = codes "hist_tx"
builtin_name b.Seen = codes "seen"
builtin_name b.BackCount = codes "back_count"
builtin_name b.FwdCount = codes "fwd_count"
builtin_name b.BackKey = codes "back_key"
builtin_name b.FwdKey = codes "fwd_key"
builtin_name b.BackBlock = codes "back_block"
builtin_name b.FwdBlock = codes "fwd_block"

-- The kinds of a builtin's parameters, in order: key, block and index for those that read the past.
abbrev pub params_of : Builtin → List ValueKind
params_of b.GetInt = Text ∷ []
params_of b.GetText = Text ∷ []
params_of b.Has = Text ∷ []
params_of b.Caller = []
params_of b.Block = []
params_of b.Len = Text ∷ []
params_of b.Text = Int ∷ []
params_of b.HistInt = Text ∷ Int ∷ []
params_of b.HistText = Text ∷ Int ∷ []
params_of b.HistBlock = Text ∷ Int ∷ []
params_of b.HistTx = Text ∷ Int ∷ []
params_of b.Seen = Text ∷ Int ∷ []
params_of b.BackCount = Text ∷ Int ∷ []
params_of b.FwdCount = Text ∷ Int ∷ []
params_of b.BackKey = Text ∷ Int ∷ Int ∷ []
params_of b.FwdKey = Text ∷ Int ∷ Int ∷ []
params_of b.BackBlock = Text ∷ Int ∷ Int ∷ []
params_of b.FwdBlock = Text ∷ Int ∷ Int ∷ []

-- The kind of the value that a builtin returns.
abbrev pub kind_given : Builtin → ValueKind
kind_given b.GetText = Text
kind_given b.Caller = Text
kind_given b.Text = Text
kind_given b.HistText = Text
kind_given b.BackKey = Text
kind_given b.FwdKey = Text
kind_given _ = Int

-- All builtins.
abbrev pub builtins : List Builtin
builtins =
    b.GetInt ∷ b.GetText ∷ b.Has ∷ b.Caller ∷ b.Block ∷ b.Len ∷ b.Text ∷ b.HistInt ∷ b.HistText
    ∷ b.HistBlock ∷ b.HistTx ∷ b.Seen ∷ b.BackCount ∷ b.FwdCount ∷ b.BackKey ∷ b.FwdKey
    ∷ b.BackBlock ∷ b.FwdBlock ∷ []

-- Whether this is the name of the builtin.
abbrev pub is_named : List ℕ → Builtin → Bool
is_named name builtin = pointwise ◌==◌ (builtin_name builtin) name

-- The builtin with this name, if there is one.
unfoldable pub builtin_of : List ℕ → Option Builtin
builtin_of name = find (is_named name) builtins

-- Whether this is the name of a builtin.
abbrev pub is_builtin : List ℕ → Bool
is_builtin name = is_some (builtin_of name)
