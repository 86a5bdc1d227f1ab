-- The items of an accepted proof are the ancestors in a history, if no two texts clash.
use Rattle.std.proofs.Common.{◌≡◌, ◌∙◌, ℕ, zero, suc, ◌≤◌, ◌==◌, List, [], ◌∷◌, length, map, Result}
use Rattle.std.proofs.Common.{Ok, refl, sym, ap, ap₂, arith}
use Rattle.std.specs.List.{All, AllByRecursion, Contains, flat_map}
use Rattle.std.specs.Cmp.Lexicographic.{pointwise}
use Rattle.std.proofs.lemmas.Bool.{and_parts, eqb-true}
use Rattle.std.proofs.lemmas.List.Elements.{Contains-append_left, Contains-append_right}
use Rattle.sha2.specs.Sha256.{sha256}
use Rattle.lc_base.specs.declared.digest.Digest.{Digest}
use Rattle.lc_base.specs.declared.row.Row.{Row}
use Rattle.lc_base.specs.declared.row.Dep.{Dep}
use Rattle.lc_base.specs.History.{IsLawful}
use Rattle.proof_codec.specs.merkle_tree.Clash.{Agree}
use Rattle.root_laws.specs.prov_entry.declared.entry.Header.{Header}
use Rattle.root_laws.specs.prov_entry.declared.entry.BodyDep.{BodyDep}
use Rattle.root_laws.specs.prov_entry.declared.entry.Body.{Body}
use Rattle.root_laws.specs.prov_entry.Spelling.{header_text, body_text}
use Rattle.root_laws.specs.Naming.{is_named, header_of, body_of}
use Rattle.root_laws.proofs.Keys.{same_key}
use Rattle.root_laws.specs.TypedLedger.{IsTypedRow}
use Rattle.proof_checks.specs.Checks.{dep_of}
use Rattle.proof_checks.specs.LedgerTexts.{texts_of_row}
use Rattle.proof_checks.proofs.Parts.{in_flat}
use Rattle.proof_checks.proofs.Told.{header_told, body_told}
use Rattle.root_laws.specs.Ancestors.{all_inserted, itself, deps_in, reached_from}
use Rattle.root_laws.proofs.Order.{same_version}
use Rattle.root_laws.proofs.Inserting.{all_inserted_map}
use Rattle.root_laws.proofs.Versions.{IsVersion, deps_in_is}
use Rattle.root_laws.proofs.Enough.{AreWanted, after_last, next_wanted}
use Rattle.proof_checks.specs.declared.trace_proof.TraceItem.{TraceItem}
use Rattle.proof_checks.specs.declared.trace_reject.TraceReject.{TraceReject}
use Rattle.proof_checks.specs.declared.trace_reject.TraceReject.TheVariants as rejects
use Rattle.proof_checks.specs.TraceChecks.{digest_tested, with_deps, after_item, after_items}
use Rattle.proof_checks.specs.TraceChecks.{version_of_item}
use Rattle.proof_checks.specs.TraceTexts.{IsTraceItem, texts_of_item}
use Rattle.proof_checks.proofs.TracePassing.{tested_ok, digest_ok, and_then_ok, with_deps_ok}
use Rattle.proof_checks.proofs.Named.{named, named_is, deps_are_named}

-- The texts of the headers and bodies of all rows.
abbrev pub texts_of_rows : List Row → List (List ℕ)
texts_of_rows rows = flat_map (texts_of_row rows) rows

-- What the tests of an item say, given the last version that is wanted.
pub record Passes (number : ℕ) (item : TraceItem) (last : BodyDep)
    (wanted next : List BodyDep) : Type 0 where
  pub key_is : last.key ≡ item.header.key
  pub block_is : last.block ≡ item.header.block
  pub header_named : sha256 (header_text item.header) ≡ last.digest.0
  pub body_named : sha256 (body_text item.body) ≡ item.header.body.0
  pub next_is : all_inserted dep_of item.body.deps wanted ≡ next

passes : (number : ℕ) (item : TraceItem) (last : BodyDep) (wanted next : List BodyDep)
    → after_item number item (last ∷ wanted) ≡ Ok next → Passes number item last wanted next
passes number item last wanted next e =
    let after_body : Result (List BodyDep) TraceReject =
    with_deps number item.header.block item.body.deps wanted in
    let after_header : Result (List BodyDep) TraceReject =
    digest_tested (body_text item.body) item.header.body (rejects.Body number) after_body in
    let after_order : Result (List BodyDep) TraceReject =
    digest_tested (header_text item.header) last.digest (rejects.Header number) after_header in
    let one = tested_ok (is_named item.header.key item.header.block last) (rejects.Order number)
    after_order next e in
    let two = digest_ok (header_text item.header) last.digest (rejects.Header number) after_header
    next one.1 in
    let three = digest_ok (body_text item.body) item.header.body (rejects.Body number) after_body
    next two.1 in
    let parts = and_parts (pointwise ◌==◌ last.key item.header.key)
    (last.block == item.header.block) one.0 in
    record {
      key_is = same_key last.key item.header.key parts.0;
      block_is = eqb-true last.block item.header.block parts.1;
      header_named = two.0;
      body_named = three.0;
      next_is = with_deps_ok number item.header.block item.body.deps wanted next three.1;
    }

module _ (rows : List Row) (lawful : IsLawful rows) (are : All IsTypedRow rows) where
  -- The item is the last version that is wanted, and this is wanted after it.
  pub record Gives (item : TraceItem) (last : Dep) (wanted : List Dep)
      (next : List BodyDep) : Type 0 where
    pub version_is : last ≡ version_of_item item
    pub next_is : map (named rows) (after_last rows last wanted) ≡ next

  gives : (number : ℕ) (item : TraceItem) (last : Dep) (wanted : List Dep) (next : List BodyDep)
      (given : List (List ℕ)) → IsTraceItem item → Agree given (texts_of_rows rows)
      → Contains given (header_text item.header) → Contains given (body_text item.body)
      → IsVersion rows last → after_item number item (map (named rows) (last ∷ wanted)) ≡ Ok next
      → Gives item last wanted next
  gives number item last wanted next given is agree in_header in_body version e =
      let pass = passes number item (named rows last) (map (named rows) wanted) next e in
      let row = version.row in
      let header : item.header ≡ header_of rows row =
      header_told rows lawful are given (texts_of_rows rows) agree row version.there item.header
      is.header_is_header in_header
      (in_flat (texts_of_row rows) rows row (header_text (header_of rows row)) version.there
      (0, omega arith, refl))
      (pass.header_named ∙ ap (λ (d : Digest). d.0) (named_is rows last lawful version)) in
      let body : item.body ≡ body_of rows row =
      body_told rows lawful are given (texts_of_rows rows) agree row version.there item.body
      is.body_is_body in_body
      (in_flat (texts_of_row rows) rows row (body_text (body_of rows row)) version.there
      (1, omega arith, refl))
      (pass.body_named ∙ ap (λ (h : Header). h.body.0) header) in
      let deps : item.body.deps ≡ map (named rows) (deps_in rows last) =
      ap (λ (b : Body). b.deps) body ∙ deps_are_named rows row lawful version.there
      ∙ ap (map (named rows)) (sym (deps_in_is rows last lawful version)) in
      record {
        version_is = same_version last (version_of_item item) pass.key_is pass.block_is;
        next_is =
            sym (all_inserted_map (named rows) itself dep_of (λ x. refl) (deps_in rows last) wanted)
            ∙ ap (λ (ds : List BodyDep). all_inserted dep_of ds (map (named rows) wanted))
            (sym deps)
            ∙ pass.next_is;
      }

  -- So the items are what is reached from what is wanted.
  pub items_are : (items : List TraceItem) (number : ℕ) (wanted : List Dep) (given : List (List ℕ))
      → AllByRecursion IsTraceItem items → Agree given (texts_of_rows rows)
      → ((text : List ℕ) → Contains (flat_map texts_of_item items) text → Contains given text)
      → AreWanted rows wanted → after_items number items (map (named rows) wanted) ≡ Ok tt → (n : ℕ)
      → length items ≤ n → reached_from n rows wanted ≡ map version_of_item items
  unfolding reached_from
  items_are [] number [] given all agree there wants e zero few = refl
  items_are [] number [] given all agree there wants e (suc n) few = refl
  items_are [] number (last ∷ wanted) given all agree there wants e n few = absurd cc
  items_are (item ∷ items) number [] given all agree there wants e n few = absurd cc
  items_are (item ∷ items) number (last ∷ wanted) given all agree there wants e zero few =
      absurd (omega (arith, few))
  items_are (item ∷ items) number (last ∷ wanted) given all agree there wants e (suc n) few =
      let first = and_then_ok (after_item number item (map (named rows) (last ∷ wanted)))
      (after_items (suc number) items) tt e in
      let give = gives number item last wanted first.0 given all.0 agree
      (there (header_text item.header)
      (Contains-append_left (texts_of_item item) (flat_map texts_of_item items)
      (header_text item.header) (0, omega arith, refl)))
      (there (body_text item.body)
      (Contains-append_left (texts_of_item item) (flat_map texts_of_item items)
      (body_text item.body) (1, omega arith, refl)))
      wants.versions.0 first.1 in
      let rest : after_items (suc number) items (map (named rows) (after_last rows last wanted))
      ≡ Ok tt = ap (after_items (suc number) items) give.next_is ∙ first.2 in
      ap₂ (λ (v : Dep) (vs : List Dep). v ∷ vs) give.version_is
      (items_are items (suc number) (after_last rows last wanted) given all.1 agree
      (λ text has. there text (Contains-append_right (texts_of_item item)
      (flat_map texts_of_item items) text has))
      (next_wanted rows last wanted lawful wants) rest n (omega (arith, few)))
