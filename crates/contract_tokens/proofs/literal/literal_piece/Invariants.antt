use Rattle.std.proofs.Common.{◌≡◌, ◌≤◌, [], drop, false, length}
use Rattle.lc_base.specs.TextBytes.{IsText}
use Rattle.contract_tokens.specs.declared.limits.TheConstants.{MAX_LITERAL_BYTES}
use Rattle.contract_tokens.specs.Pieces.{literal_piece}
use Rattle.contract_tokens.proofs.literal.literal_piece.Given as goal

abbrev pub invariant-loop-i : goal.invariant-loop-i
invariant-loop-i l = record {
  is_text : IsText l.text.items;
  few : length l.text.items ≤ MAX_LITERAL_BYTES;
  same : literal_piece l.escaped l.text.items l.i (drop l.i l.rest)
      ≡ literal_piece false [] 0 l.rest;
}
