use Rattle.std.proofs.Common.{sym, ap, subst, length, length-append, ◌∷◌, [], arith}
use Rattle.lc_base.specs.declared.digest.Digest.{Digest}
use Rattle.block_codec.proofs.Versions.{few_with_next, last_version_of}
use Rattle.chain_replay.specs.chain_exec.Compiled.{compiled_in}
use Rattle.chain_replay.specs.Chain.{placement_in}
use Rattle.chain_replay.specs.Judging.{Added, IfNext, IsNextBlock}
use Rattle.chain_replay.specs.declared.judging.Judged.{Judged}
use Rattle.chain_replay.specs.declared.marking.Marking.TheVariants.{OfVersions}
use Rattle.chain_replay.proofs.Judgements.{added}
use Rattle.chain_input.proofs.folding.FolderFrameTaker.take.Goals as goal

pub returns-in_ok-chain-in-Ok-Next : goal.returns-in_ok-chain-in-Ok-Next
returns-in_ok-chain-in-Ok-Next c =
    let given : IsNextBlock (OfVersions c.args.self.now.last) c.args.chain c.args.frame.now
    c.in-Ok-Next.block c.in-Ok-Next.digest =
    subst (λ (j : Judged). IfNext j (IsNextBlock (OfVersions c.args.self.now.last) c.args.chain c.args.frame.now))
    c.in-Ok-Next.field-0-is c.in-Ok-Next.ensures.next in
    let longer = c.in_ok-chain-in-Ok-Next.ensures.after.digests in
    let few = few_with_next c.args.self.now.last (length c.args.chain.digests) _ _ _ c.in-Ok-Next.block
    c.in-Ok-Next.digest given.placed c.requires.ready in
    record {
      turn = record {
        judged = λ blocks stands.
            let a = added (placement_in compiled_in) _ blocks c.args.chain c.args.frame.now c.in-Ok-Next.field-0
            c.in-Ok-Next.block c.in-Ok-Next.digest c.in-Ok-Next.field-0-is
            (c.in-Ok-Next.ensures.judged blocks stands) c.in-Ok-Next.ensures.next in (
              Added c.in-Ok-Next.block,
              a.judgement,
              record {
                kept = c.in_ok-chain-in-Ok-Next.ensures.stands blocks stands.kept a.given.digest_is a.stands;
                last_is = sym (last_version_of blocks c.in-Ok-Next.block);
              },
            );
        within = omega (
          arith,
          few,
          ap (length {A = Digest}) longer,
          length-append c.args.chain.digests (c.in-Ok-Next.digest ∷ []),
        );
      };
    }
