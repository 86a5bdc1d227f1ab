-- The meaning of the tokens of a source in the grammar. Names that end in `_in` are about words,
-- those that end in `_of` about tokens with their offsets.
use Rattle.std.specs.Prelude.{ℕ, suc, ℤ, Bool, true, false, ◌==◌, ◌||◌, not, nat_lt, List, Option, Some, None, is_some, if◌then◌else◌}
use denote.Enum.Bare.{sameb}
use Rattle.contract_tokens.specs.contracts.token.Mark.{the_type}
use Rattle.contract_tokens.specs.declared.token.Token.{Token}
use Rattle.contract_tokens.specs.declared.token.Word.{Word}
use Rattle.contract_tokens.specs.declared.token.Mark.{Mark as MarkType}
use Rattle.contract_tokens.specs.declared.token.Word.TheVariants as w
use Rattle.contract_tokens.specs.declared.token.Mark.TheVariants as m
use Rattle.contract_tree.specs.declared.tree.Sign.{Sign}
use Rattle.contract_tree.specs.declared.tree.Sign.TheVariants as s
use Rattle.contract_tree.specs.declared.tree.ValueKind.{ValueKind}
use Rattle.contract_tree.specs.declared.tree.ValueKind.TheVariants as k
use Rattle.contract_tree.specs.declared.builtin.Builtin.TheVariants as b
use Rattle.contract_tree.specs.Builtins.{builtin_name, is_builtin}
use Rattle.contract_grammar.specs.declared.limits.TheConstants.{COMPARISONS, WHOLE}
use Rattle.contract_grammar.specs.declared.word.NameKind.{NameKind}
use Rattle.contract_grammar.specs.declared.word.NameKind.TheVariants as n

-- Whether two keywords or signs are the same, as the program's `==` returns it.
abbrev pub is_same : MarkType → MarkType → Bool
is_same = sameb the_type

-- Whether the word is this keyword or sign.
abbrev pub is_word : MarkType → Word → Bool
is_word mark (w.Mark other) = is_same other mark
is_word mark _ = false

-- Whether the token is this keyword or sign.
abbrev pub is : MarkType → Token → Bool
is mark t = is_word mark t.word

-- The offset of the token, if it is this keyword or sign.
abbrev pub the : MarkType → Token → Option ℕ
the mark t = if is mark t then Some t.at else None

-- The value of a number.
abbrev pub int_in : Word → Option ℤ
int_in (w.Int value) = Some value
int_in _ = None

-- The text of a text literal.
abbrev pub text_in : Word → Option (List ℕ)
text_in (w.Text text) = Some text
text_in _ = None

-- The bytes of a name.
abbrev pub name_in : Word → Option (List ℕ)
name_in (w.Name name) = Some name
name_in _ = None

-- Whether the word is the end of the source.
abbrev pub end_in : Word → Bool
end_in w.End = true
end_in _ = false

-- Whether the token is the end of the source, the last item of each list of tokens.
abbrev pub is_end : Token → Bool
is_end t = end_in t.word

-- An optional value, with the offset of its token.
abbrev pub with_offset : {A : Type 0} → ℕ → Option A → Option (ℕ × A)
with_offset at None = None
with_offset at (Some a) = Some (at, a)

-- A number with its offset.
abbrev pub int_of : Token → Option (ℕ × ℤ)
int_of t = with_offset t.at (int_in t.word)

-- A text literal with its offset.
abbrev pub text_of : Token → Option (ℕ × List ℕ)
text_of t = with_offset t.at (text_in t.word)

-- A name with its offset.
abbrev pub name_of : Token → Option (ℕ × List ℕ)
name_of t = with_offset t.at (name_in t.word)

-- The name of a builtin that is also a keyword.
abbrev pub builtin_in : Word → Option (List ℕ)
builtin_in (w.Mark m.Text) = Some (builtin_name b.Text)
builtin_in _ = None

-- Such a name with its offset.
abbrev pub builtin_of : Token → Option (ℕ × List ℕ)
builtin_of t = with_offset t.at (builtin_in t.word)

-- What may precede the parentheses of a call: a name, or the keyword that names a builtin.
abbrev pub callee_in : Word → Option (List ℕ)
callee_in (w.Name name) = Some name
callee_in (w.Mark m.Text) = Some (builtin_name b.Text)
callee_in _ = None

-- Such a name with its offset.
abbrev pub callee_of : Token → Option (ℕ × List ℕ)
callee_of t = with_offset t.at (callee_in t.word)

-- A name, unless it is that of a builtin.
abbrev pub unless_builtin : Bool → List ℕ → Option (List ℕ)
unless_builtin true name = None
unless_builtin false name = Some name

-- A name, if it may be declared.
abbrev pub declarable : Option (List ℕ) → Option (List ℕ)
declarable None = None
declarable (Some name) = unless_builtin (is_builtin name) name

-- A name that may be declared: one that is no builtin's.
abbrev pub declared_in : Word → Option (List ℕ)
declared_in word = declarable (name_in word)

-- Such a name with its offset.
abbrev pub declared_of : Token → Option (ℕ × List ℕ)
declared_of t = with_offset t.at (declared_in t.word)

-- The name that a word is, if names of this kind are read.
abbrev pub name_as : NameKind → Word → Option (List ℕ)
name_as n.Plain word = name_in word
name_as n.Declared word = declared_in word
name_as n.Builtin word = builtin_in word

-- Such a name with its offset.
abbrev pub name_with_offset : NameKind → Token → Option (ℕ × List ℕ)
name_with_offset kind t = with_offset t.at (name_as kind t.word)

-- The kind of a parameter's values.
abbrev pub kind_in : Word → Option ValueKind
kind_in (w.Mark m.Int) = Some k.Int
kind_in (w.Mark m.Text) = Some k.Text
kind_in _ = None

-- The kind of a parameter's values, from its token.
abbrev pub kind_of : Token → Option ValueKind
kind_of t = kind_in t.word

-- The level of a word as an operator between two operands; lower levels bind tighter. What is no
-- operator has a level after all others; a parenthesis after a name makes a call, so it has level
-- 0.
abbrev pub level_in : Word → ℕ
level_in (w.Mark m.ParenOpen) = 0
level_in (w.Mark m.Star) = 1
level_in (w.Mark m.Slash) = 1
level_in (w.Mark m.Percent) = 1
level_in (w.Mark m.Plus) = 2
level_in (w.Mark m.Minus) = 2
level_in (w.Mark m.Concat) = 3
level_in (w.Mark m.Equal) = COMPARISONS
level_in (w.Mark m.NotEqual) = COMPARISONS
level_in (w.Mark m.Less) = COMPARISONS
level_in (w.Mark m.LessEqual) = COMPARISONS
level_in (w.Mark m.Greater) = COMPARISONS
level_in (w.Mark m.GreaterEqual) = COMPARISONS
level_in (w.Mark m.And) = 5
level_in (w.Mark m.Or) = WHOLE
level_in _ = suc WHOLE

-- An operator between two operands.
abbrev pub sign_in : Word → Option Sign
sign_in (w.Mark m.Star) = Some s.Star
sign_in (w.Mark m.Slash) = Some s.Slash
sign_in (w.Mark m.Percent) = Some s.Percent
sign_in (w.Mark m.Plus) = Some s.Plus
sign_in (w.Mark m.Minus) = Some s.Minus
sign_in (w.Mark m.Concat) = Some s.Concat
sign_in (w.Mark m.Equal) = Some s.Equal
sign_in (w.Mark m.NotEqual) = Some s.NotEqual
sign_in (w.Mark m.Less) = Some s.Less
sign_in (w.Mark m.LessEqual) = Some s.LessEqual
sign_in (w.Mark m.Greater) = Some s.Greater
sign_in (w.Mark m.GreaterEqual) = Some s.GreaterEqual
sign_in (w.Mark m.And) = Some s.And
sign_in (w.Mark m.Or) = Some s.Or
sign_in _ = None

-- An operator of this level, with its offset.
abbrev pub sign_of : ℕ → Token → Option (ℕ × Sign)
sign_of level t = if level_in t.word == level then with_offset t.at (sign_in t.word) else None

-- A prefix.
abbrev pub prefix_in : Word → Option Sign
prefix_in (w.Mark m.Minus) = Some s.Minus
prefix_in (w.Mark m.Not) = Some s.Not
prefix_in _ = None

-- A prefix with its offset.
abbrev pub prefix_of : Token → Option (ℕ × Sign)
prefix_of t = with_offset t.at (prefix_in t.word)

-- Whether the function makes something of the token.
abbrev pub has : {A : Type 0} → (Token → Option A) → Token → Bool
has f t = is_some (f t)

-- Whether an expression of this level ends before the token: it is no operator of this level or a
-- tighter one, and makes no call.
abbrev pub stops : ℕ → Token → Bool
stops level t = nat_lt level (level_in t.word)

-- Every token passes.
abbrev pub any : Token → Bool
any t = true

-- every token but one

-- Whether the token is not this keyword or sign.
abbrev pub is_not : MarkType → Token → Bool
is_not mark t = not (is mark t)

-- Whether the token is not the end of the source.
abbrev pub is_no_end : Token → Bool
is_no_end t = not (is_end t)

-- Whether the token is an opening parenthesis or a prefix.
abbrev pub opens : Token → Bool
opens t = is m.ParenOpen t || has prefix_of t
