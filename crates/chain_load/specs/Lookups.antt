-- The look-ups of a load, and how many versions they look at.
use Rattle.std.specs.Prelude.{ℕ, ◌<◌, ◌≤◌, ◌^◌, max, List, [], ◌∷◌, length}
use Rattle.std.specs.List.{sum}
use Rattle.lc_base.specs.declared.row.Row.{Row}
use Rattle.lc_base.specs.declared.answer.Answer.{Answer}
use Rattle.lc_base.specs.declared.answer.Answer.TheVariants as answers
use Rattle.lc_base.specs.declared.answer.Kind.TheVariants.{Hist}
use Rattle.lc_base.specs.declared.value.Value.{Value}
use Rattle.lc_base.specs.declared.value.Value.TheVariants as values
use Rattle.lc_base.specs.History.{scan}
use Rattle.lc_base.specs.Parts.{question}
use Rattle.skip_links.specs.Paths.{path}
use Rattle.rooted_chain.specs.merkle_dag.Lineage.{LineageState}
use Rattle.chain_pack.specs.Draws.{number_below, key_drawn, draw_list}
use Rattle.chain_load.specs.declared.looking.LookupCounts.{LookupCounts}

-- A look-up of the versions of a key in the blocks up to this one.
pub record Lookup : Type 0 where
  pub key : List ℕ
  pub at : ℕ

-- Look-ups over the first `blocks` blocks can be made of a lineage and counted: there is at least
-- one block, the lineage has all of them, and no count overflows.
pub record CanBeLookedUp (lineage : LineageState) (blocks : ℕ) : Type 0 where
  pub some : 0 < blocks
  pub there : blocks ≤ length lineage.digests
  pub few_rows : length lineage.rows < 2 ^ 32

-- A look-up over `blocks` blocks, drawn from a state: first its key, then its block.
unfoldable pub lookup_drawn : ℕ → ℕ → Lookup × ℕ
lookup_drawn blocks state =
    let key = key_drawn state in
    let at = number_below blocks key.1 in
    (record { key = key.0; at = at.0 }, at.1)

-- `count` look-ups over `blocks` blocks, drawn one after another from a state.
abbrev pub lookups_drawn : ℕ → ℕ → ℕ → List Lookup
lookups_drawn blocks count state = (draw_list (lookup_drawn blocks) count state).0

-- How many versions a look-up looks at, over the rows of a history.
abbrev pub looked_at : List Row → Lookup → ℕ
looked_at rows lookup = length (path rows lookup.key lookup.at)

-- How many bytes a value has; a number has eight, and a value that is gone has none.
abbrev pub bytes_of_value : Value → ℕ
bytes_of_value (values.Int number) = 8
bytes_of_value (values.Text text) = length text
bytes_of_value values.Gone = 0

-- How many bytes the value has that an answer gives, or 0 if it gives no value.
abbrev pub bytes_of_answer : Answer → ℕ
bytes_of_answer answers.Nothing = 0
bytes_of_answer (answers.Hist block tx value) = bytes_of_value value
bytes_of_answer (answers.Back block deps) = 0
bytes_of_answer (answers.Fwd block uses) = 0

-- How many bytes the value has that a look-up finds, over the rows of a history.
abbrev pub bytes_found : List Row → Lookup → ℕ
bytes_found rows lookup = bytes_of_answer (scan rows (question Hist lookup.key lookup.at))

-- The greatest of the numbers, or 0 if there are none.
abbrev pub greatest : List ℕ → ℕ
greatest [] = 0
greatest (number ∷ numbers) = max number (greatest numbers)

-- The counts over look-ups, by how many versions each looked at: the sum, and the greatest; and how
-- many bytes the values have that they found.
abbrev pub lookup_counts : List ℕ → ℕ → LookupCounts
lookup_counts counts bytes =
    record { entries = sum counts; most = greatest counts; value_bytes = bytes }
