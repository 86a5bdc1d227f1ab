use Rattle.std.proofs.Common.{◌++◌, ◌∙◌}
use Rattle.std.specs.Prelude.{codes, decimal}
use Rattle.hex.specs.Hex.{encode_lower}
use Rattle.cli_promises.proofs.cli_lines.Texts.{line_of}
use Rattle.cli_output.proofs.LoadTexts.{joined, load_text}
use Rattle.cli_output.proofs.loads.load_line.Goals as goal

pub returns : goal.returns
returns c =
    let load = c.args.load.now in
    line_of c.line.result c.as_str-3.result.now
    (codes "blocks " ++ decimal load.blocks ++ codes " rows " ++ decimal load.rows ++ codes " root " ++ encode_lower load.root.0
    ++ codes " lookups " ++ decimal load.lookups ++ codes " entries " ++ decimal load.entries ++ codes " most " ++ decimal load.most)
    (c.as_str-3.ensures.value
    ∙ joined _ _ _ _ (codes "blocks " ++ decimal load.blocks ++ codes " rows " ++ decimal load.rows ++ codes " root ") (encode_lower load.root.0) _ _
    c.in_ok-push_str.ensures.bytes c.in_ok-text.ensures c.as_str.ensures.value c.in_ok-head.ensures
    (codes " lookups " ++ decimal load.lookups ++ codes " entries " ++ decimal load.entries ++ codes " most " ++ decimal load.most) c.as_str-2.ensures.value c.in_ok-counts.ensures
    ∙ load_text (codes "blocks ") (decimal load.blocks) (codes " rows ") (decimal load.rows) (codes " root ") (encode_lower load.root.0)
    (codes " lookups ") (decimal load.lookups) (codes " entries ") (decimal load.entries) (codes " most ") (decimal load.most))
    c.line.ensures
