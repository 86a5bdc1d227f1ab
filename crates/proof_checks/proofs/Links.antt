-- The lowest link of a header leads to the version before, if there is one.
use Rattle.std.proofs.Common.{◌≡◌, ◌∙◌, ℕ, ◌<◌, nat_lt, List, slice_get, Option, Some, None, sym}
use Rattle.std.proofs.Common.{ap}
use Rattle.std.specs.List.{Contains}
use Rattle.std.specs.Option.{option_map}
use Rattle.std.proofs.lemmas.Option.{slice_get-map}
use Rattle.lc_base.specs.declared.digest.Digest.{Digest}
use Rattle.lc_base.specs.declared.row.Row.{Row}
use Rattle.lc_base.specs.History.{IsLawful, below, up_to, newest}
use Rattle.skip_links.specs.Links.{links}
use Rattle.skip_links.proofs.LinkLaws.{first_link}
use Rattle.skip_links.proofs.Towers.{links_up_to}
use Rattle.root_laws.specs.prov_entry.declared.entry.Link.{Link}
use Rattle.root_laws.specs.Naming.{header_of, named_before, link_among, digest_among}
use Rattle.root_laws.specs.NamingLaws.{digest_of_row}
use Rattle.root_laws.proofs.Headers.{row_is_named, newest_is_key, newest_has}
use Rattle.root_laws.proofs.Headers.{below_are_before, kept_rows}
use Rattle.proof_checks.proofs.Onward.{begun, link_to}

-- The link from a row to the version of its key in a block.
abbrev link_in : List Row → Row → ℕ → Link
link_in rows row block = link_among (named_before rows row.block) row.key block

abbrev block_of : Row → ℕ
block_of row = row.block

lowest_is : (rows : List Row) (row : Row) → IsLawful rows
    → slice_get (header_of rows row).links 0
    ≡ option_map (link_in rows row) (option_map block_of (newest (below rows row.block) row.key))
lowest_is rows row lawful =
    slice_get-map (link_in rows row) (links (up_to rows row.block) row.key row.block) 0
    ∙ ap (option_map (link_in rows row))
    (ap (λ (blocks : List ℕ). slice_get blocks 0) (links_up_to rows row.key row.block)
    ∙ first_link rows row.key row.block lawful)

-- The version is of the row's key, and before it.
pub record IsBeforeRow (rows : List Row) (row version : Row) : Type 0 where
  pub there : Contains rows version
  pub key_is : version.key ≡ row.key
  pub less : version.block < row.block

pub is_before_row : (rows : List Row) (row version : Row)
    → newest (below rows row.block) row.key ≡ Some version → IsBeforeRow rows row version
is_before_row rows row version e = record {
  there = newest_has (Contains rows) (below rows row.block) row.key version
      (kept_rows rows (λ (r : Row). nat_lt r.block row.block)) e;
  key_is = newest_is_key (below rows row.block) row.key version e;
  less = newest_has (λ (v : Row). v.block < row.block) (below rows row.block) row.key version
      (below_are_before rows row.block) e;
}

pub link_before : (rows : List Row) (row : Row) (before : Option Row) → IsLawful rows
    → newest (below rows row.block) row.key ≡ before
    → slice_get (header_of rows row).links 0 ≡ option_map (begun rows) before
link_before rows row None lawful e =
    lowest_is rows row lawful
    ∙ ap (λ (o : Option Row). option_map (link_in rows row) (option_map block_of o)) e
link_before rows row (Some version) lawful e =
    let is = is_before_row rows row version e in
    let named : digest_among (named_before rows row.block) row.key version.block
    ≡ digest_of_row rows version =
    ap (λ (key : List ℕ). digest_among (named_before rows row.block) key version.block)
    (sym is.key_is)
    ∙ row_is_named rows version row.block lawful is.there is.less in
    lowest_is rows row lawful
    ∙ ap (λ (o : Option Row). option_map (link_in rows row) (option_map block_of o)) e
    ∙ ap (λ (d : Digest). Some (link_to version.block d)) named
