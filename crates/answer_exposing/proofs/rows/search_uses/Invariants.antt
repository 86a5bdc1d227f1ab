use Rattle.std.proofs.Common.{drop}
use Rattle.merkle_tree.specs.Chains.{chain_texts}
use Rattle.prov_entry.specs.ForwardLists.{use_text}
use Rattle.proof_checks.specs.ProofTexts.{texts_of_uses}
use Rattle.answer_exposing.proofs.Onward.{SearchesUpTo}
use Rattle.answer_exposing.proofs.rows.search_uses.Given as goal

abbrev pub invariant-loop-one : goal.invariant-loop-one
invariant-loop-one l = SearchesUpTo (chain_texts use_text l.digest.0 (drop l.one-index l.uses))
    (texts_of_uses l.uses) l.fn.search l.search
