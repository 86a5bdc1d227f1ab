-- The walk over the headers of a made proof has no fault and ends at the version that answers.
use Rattle.std.proofs.Common.{◌≡◌, ◌∙◌, ℕ, zero, suc, ◌<◌, true, false, ◌==◌, nat_lt, nat_le, List}
use Rattle.std.proofs.Common.{[], ◌∷◌, map, reverse, slice_get, Option, Some, None, refl, sym, ap}
use Rattle.std.proofs.Common.{subst, arith, inl, inr}
use Rattle.std.specs.List.{find, filter_map, Contains}
use Rattle.std.specs.Option.{option_map, option_or}
use Rattle.std.specs.Cmp.Lexicographic.{pointwise}
use Rattle.std.proofs.lemmas.Bool.{cases_Bool, eq-eqb}
use Rattle.std.proofs.lemmas.Option.{none-some, same_Some, slice_get-map}
use Rattle.sha2.specs.Sha256.{sha256}
use Rattle.lc_base.specs.declared.row.Row.{Row}
use Rattle.lc_base.specs.History.{IsLawful}
use Rattle.skip_links.specs.Links.{links}
use Rattle.skip_links.proofs.Towers.{links_up_to}
use Rattle.skip_links.specs.Paths.{onward as link_onward, path_from}
use Rattle.skip_links.proofs.Walks.{ended}
use Rattle.root_laws.specs.prov_entry.declared.entry.Link.{Link}
use Rattle.root_laws.specs.prov_entry.declared.entry.Header.{Header}
use Rattle.root_laws.specs.Naming.{header_of, named_before, link_among}
use Rattle.root_laws.specs.WalkLaws.{text_of_row}
use Rattle.root_laws.proofs.Lists.{find_map, map_reverse}
use Rattle.root_laws.proofs.Keys.{key_is_key}
use Rattle.root_laws.proofs.Walking.{version_found}
use Rattle.proof_checks.specs.declared.claim.Claim.{Claim}
use Rattle.proof_checks.specs.declared.reject.Reject.{Reject}
use Rattle.proof_checks.specs.Checks.{claim_of_header, header_fault, next_link, expected_after}
use Rattle.proof_checks.specs.Making.{header_in}
use Rattle.proof_checks.proofs.Onward.{begun, StandsAt, GoesOn, onward}
use Rattle.proof_checks.proofs.Walked.{walk_fault, Ends, one_before}

-- ---- the header of a row

pub header_found : (rows : List Row) (key : List ℕ) (row : Row) → IsLawful rows → Contains rows row
    → row.key ≡ key → header_in rows key row.block ≡ Some (header_of rows row)
header_found rows key row lawful has k = ap (λ (x : List ℕ). header_in rows x row.block) (sym k) ∙ ap (option_map (header_of rows)) (version_found rows row lawful has)

pub one_header : (rows : List Row) (key : List ℕ) (block : ℕ) (blocks : List ℕ) (header : Header)
    → header_in rows key block ≡ Some header
    → filter_map (header_in rows key) (block ∷ blocks) ≡ header ∷ filter_map (header_in rows key) blocks
one_header rows key block blocks header e = rw e refl

-- ---- the link to follow

or_mapped : (f : ℕ → Link) (a b : Option ℕ)
    → option_or (option_map f a) (option_map f b) ≡ option_map f (option_or a b)
or_mapped f None b = refl
or_mapped f (Some x) b = refl

-- The block of the link to follow.
abbrev pub next_block : ℕ → List ℕ → Option ℕ
next_block at blocks = link_onward (λ (link : ℕ). link) at blocks

abbrev pub link_in : List Row → Row → ℕ → Link
link_in rows row block = link_among (named_before rows row.block) row.key block

chosen_is : (rows : List Row) (row : Row) (at : ℕ) (blocks : List ℕ)
    → next_link at (map (link_in rows row) blocks) ≡ option_map (link_in rows row) (next_block at blocks)
chosen_is rows row at blocks =
    let f : ℕ → Link = link_in rows row in
    let high : find (λ (link : Link). nat_lt at link.block) (reverse (map f blocks)) ≡ option_map f (find (λ block. nat_lt at block) (reverse blocks)) =
    ap (find (λ (link : Link). nat_lt at link.block)) (map_reverse f blocks) ∙ find_map (λ (link : Link). nat_lt at link.block) f (reverse blocks) in
    ap (λ (o : Option Link). option_or o (slice_get (map f blocks) 0)) high
    ∙ ap (λ (o : Option Link). option_or (option_map f (find (λ block. nat_lt at block) (reverse blocks))) o) (slice_get-map f blocks 0)
    ∙ or_mapped f (find (λ block. nat_lt at block) (reverse blocks)) (slice_get blocks 0)

pub expected_is : (rows : List Row) (row : Row) (at : ℕ) → nat_le row.block at ≡ false
    → expected_after at (header_of rows row) ≡ option_map (link_in rows row) (next_block at (links rows row.key row.block))
expected_is rows row at late =
    let chosen_among : next_link at (header_of rows row).links ≡ option_map (link_in rows row) (next_block at (links rows row.key row.block)) =
    ap (λ (blocks : List ℕ). next_link at (map (link_in rows row) blocks)) (links_up_to rows row.key row.block) ∙ chosen_is rows row at (links rows row.key row.block) in
    rw late chosen_among

pub no_block : (f : ℕ → Link) (o : Option ℕ) → option_map f o ≡ None → o ≡ None
no_block f None e = refl
no_block f (Some block) e = absurd (none-some (f block) (sym e))

pub a_block : (rows : List Row) (row next : Row) (o : Option ℕ)
    → option_map (link_in rows row) o ≡ Some (begun rows next) → o ≡ Some next.block
a_block rows row next None e = absurd (none-some (begun rows next) e)
a_block rows row next (Some block) e =
    ap (λ (link : Link). Some link.block) (same_Some (link_in rows row block) (begun rows next) e)

-- ---- the path

pub path_end : (more : ℕ) (rows : List Row) (key : List ℕ) (at block : ℕ) → nat_le block at ≡ true
    → path_from (suc more) (links rows key) at (Some block) ≡ block ∷ []
unfolding path_from
path_end more rows key at block t =
    rw t (ap (λ (rest : List ℕ). block ∷ rest) (ended more at (links rows key)))

pub path_on : (more : ℕ) (rows : List Row) (key : List ℕ) (at block : ℕ) (o : Option ℕ) → nat_le block at ≡ false → next_block at (links rows key block) ≡ o
    → path_from (suc more) (links rows key) at (Some block) ≡ block ∷ path_from more (links rows key) at o
unfolding path_from
path_on more rows key at block o f e =
    rw f (ap (λ (next : Option ℕ). block ∷ path_from more (links rows key) at next) e)

-- The path ends at a version that has no link to follow.
pub path_stops : (more : ℕ) (rows : List Row) (key : List ℕ) (at block : ℕ) → nat_le block at ≡ false → next_block at (links rows key block) ≡ None
    → path_from (suc more) (links rows key) at (Some block) ≡ block ∷ []
path_stops more rows key at block f e = path_on more rows key at block None f e ∙ ap (λ (rest : List ℕ). block ∷ rest) (ended more at (links rows key))

-- ---- the walk

own_fault : (rows : List Row) (key : List ℕ) (step : ℕ) (row : Row) → row.key ≡ key
    → header_fault key step (begun rows row) (header_of rows row) ≡ None
own_fault rows key step row k =
    let digest = key_is_key (sha256 (text_of_row rows row)) in
    let own : pointwise ◌==◌ row.key key ≡ true = ap (λ (x : List ℕ). pointwise ◌==◌ x key) k ∙ key_is_key key in
    let block = eq-eqb row.block row.block refl in
    rw (digest, own, block) refl

one_walked : (rows : List Row) (key : List ℕ) (at step : ℕ) (row : Row) (headers : List Header) → row.key ≡ key → walk_fault (expected_after at) key (suc step) (expected_after at (header_of rows row)) headers ≡ None
    → walk_fault (expected_after at) key step (Some (begun rows row)) (header_of rows row ∷ headers) ≡ None
one_walked rows key at step row headers k rest = ap (λ (fault : Option Reject). option_or fault (walk_fault (expected_after at) key (suc step) (expected_after at (header_of rows row)) headers)) (own_fault rows key step row k) ∙ rest

-- The walk has no fault, and ends at the version that answers, or too late if none does.
abbrev pub IsWalked : List Row → List ℕ → ℕ → ℕ → Claim → Row → List Header → Type 0
IsWalked rows key at step claim row headers = (walk_fault (expected_after at) key step (Some (begun rows row)) headers ≡ None) × Ends rows key at claim headers

pub made_walk : (more : ℕ) (rows : List Row) (key : List ℕ) (at step : ℕ) (claim : Claim) (row : Row) → IsLawful rows → StandsAt rows key at claim row → row.block < more
    → IsWalked rows key at step claim row (filter_map (header_in rows key) (path_from more (links rows key) at (Some row.block)))
made_walk zero rows key at step claim row lawful stands low = absurd (omega (arith, low))
made_walk (suc more) rows key at step claim row lawful stands low =
    let header = header_of rows row in
    let found = header_found rows key row lawful stands.there stands.key_is in
    let P : List Header → Type 0 = λ (headers : List Header). IsWalked rows key at step claim row headers in
    elim (cases_Bool (nat_le row.block at)) [
      | inl t ↦
          let none : expected_after at header ≡ None = rw t refl in
          let answers = stands.answers t in
          let headers : filter_map (header_in rows key) (path_from (suc more) (links rows key) at (Some row.block)) ≡ header ∷ [] = ap (filter_map (header_in rows key)) (path_end more rows key at row.block t) ∙ one_header rows key row.block [] header found in
          subst P (sym headers) (
            one_walked rows key at step row [] stands.key_is (ap (λ (o : Option Link). walk_fault (expected_after at) key (suc step) o []) none),
            record { last = header; last_is = refl; how = inr (row, stands.there, answers.0, refl, t, answers.1) },
          )
      | inr f ↦
          let goes : GoesOn rows key at row = subst (λ (k : List ℕ). GoesOn rows k at row) stands.key_is (onward rows at row lawful stands.there f) in
          let after = expected_is rows row at f in
          elim goes [
            | inl stop ↦
                let no : next_block at (links rows row.key row.block) ≡ None = no_block (link_in rows row) (next_block at (links rows row.key row.block)) (sym after ∙ stop.0) in
                let no_key : next_block at (links rows key row.block) ≡ None = subst (λ (k : List ℕ). next_block at (links rows k row.block) ≡ None) stands.key_is no in
                let headers : filter_map (header_in rows key) (path_from (suc more) (links rows key) at (Some row.block)) ≡ header ∷ [] = ap (filter_map (header_in rows key)) (path_stops more rows key at row.block f no_key) ∙ one_header rows key row.block [] header found in
                subst P (sym headers) (
                  one_walked rows key at step row [] stands.key_is (ap (λ (o : Option Link). walk_fault (expected_after at) key (suc step) o []) stop.0),
                  record { last = header; last_is = refl; how = inl (stop.1, f) },
                )
            | inr next ↦
                let to : next_block at (links rows row.key row.block) ≡ Some next.0.block = a_block rows row next.0 (next_block at (links rows row.key row.block)) (sym after ∙ next.1) in
                let to_key : next_block at (links rows key row.block) ≡ Some next.0.block = subst (λ (k : List ℕ). next_block at (links rows k row.block) ≡ Some next.0.block) stands.key_is to in
                let rest = made_walk more rows key at (suc step) (claim_of_header header) next.0 lawful next.2 (omega (arith, next.3, low)) in
                let others : List Header = filter_map (header_in rows key) (path_from more (links rows key) at (Some next.0.block)) in
                let headers : filter_map (header_in rows key) (path_from (suc more) (links rows key) at (Some row.block)) ≡ header ∷ others =
                ap (filter_map (header_in rows key)) (path_on more rows key at row.block (Some next.0.block) f to_key) ∙ one_header rows key row.block (path_from more (links rows key) at (Some next.0.block)) header found in
                subst P (sym headers) (
                  one_walked rows key at step row others stands.key_is (ap (λ (o : Option Link). walk_fault (expected_after at) key (suc step) o others) next.1 ∙ rest.0),
                  one_before rows key at claim header others rest.1,
                )
          ]
    ]
