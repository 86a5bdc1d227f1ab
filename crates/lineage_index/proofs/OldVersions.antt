-- What a new row names of older versions is that of the rows before its block.
use Rattle.std.proofs.Common.{◌≡◌, ◌∙◌, ℕ, suc, ◌<◌, List, Option, Some, None, refl, sym, ap, arith}
use Rattle.std.specs.Option.{IsSomeAnd}
use Rattle.lc_base.specs.declared.digest.Digest.{Digest}
use Rattle.lc_base.specs.declared.row.Row.{Row}
use Rattle.lc_base.specs.declared.row.Dep.{Dep}
use Rattle.lc_base.specs.History.{newest}
use Rattle.entry_views.specs.prov_entry.declared.entry.BodyDep.{BodyDep}
use Rattle.plain_rows.specs.root_laws.Naming.{named_before, digest_among, with_digest}
use Rattle.plain_rows.specs.root_laws.Naming.{header_digest}
use Rattle.plain_rows.specs.root_laws.NamingLaws.{digest_of_row}
use Rattle.plain_rows.specs.root_laws.Root.{block_of}
use Rattle.plain_rows.proofs.root_laws.Lists.{all_contained}
use Rattle.plain_rows.proofs.root_laws.Headers.{row_is_named, newest_has, newest_is_key}
use Rattle.lineage_index.specs.Growth.{Grows, IsOnNewest, entry_of}
use Rattle.lineage_index.proofs.Blocks.{rows_before}

-- the digest of a dependency is in the entry of its key
pub dep_is_named : (rows new : List Row) (n : ℕ) (dep : Dep) (named : List BodyDep) → Grows rows new n → IsOnNewest rows dep → named_before rows n ≡ named
    → record { key = dep.key; block = dep.block; digest = (entry_of rows dep.key).newest } ≡ with_digest named dep
dep_is_named rows new n dep named g on is = go (newest rows dep.key) refl on
  where
    go : (o : Option Row) → newest rows dep.key ≡ o → IsSomeAnd o (λ (version : Row). version.block ≡ dep.block) → record { key = dep.key; block = dep.block; digest = (entry_of rows dep.key).newest } ≡ with_digest named dep
    go None e h = absurd h
    go (Some version) e h =
        let there = newest_has _ rows dep.key version (all_contained rows) e in
        let key : version.key ≡ dep.key = newest_is_key rows dep.key version e in
        let low : version.block < n = newest_has (λ (r : Row). r.block < n) rows dep.key version (rows_before rows new n g) e in
        let in_entry : (entry_of rows dep.key).newest ≡ digest_of_row rows version =
        ap (λ (o : Option Row). header_digest rows dep.key (block_of o)) e ∙ ap (λ (k : List ℕ). header_digest rows k version.block) (sym key) ∙ row_is_named rows version (suc version.block) g.lawful_before there (omega arith) in
        let in_names : digest_among named dep.key dep.block ≡ digest_of_row rows version =
        ap (λ (names : List BodyDep). digest_among names dep.key dep.block) (sym is) ∙ ap (λ (k : List ℕ). digest_among (named_before rows n) k dep.block) (sym key)
        ∙ ap (digest_among (named_before rows n) version.key) (sym h) ∙ row_is_named rows version n g.lawful_before there low in
        ap (λ (d : Digest). let b : BodyDep = record { key = dep.key; block = dep.block; digest = d } in b) (in_entry ∙ sym in_names)
