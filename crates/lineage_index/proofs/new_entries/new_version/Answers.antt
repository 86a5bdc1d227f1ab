use Rattle.std.proofs.Common.{◌∙◌, ap, refl, sym}
use Rattle.std.proofs.lemmas.List.{length-map}
use Rattle.forward_links.specs.Lists.{Use}
use Rattle.forward_links.specs.declared.open_list.OpenList.{OpenList}
use Rattle.lineage_index.specs.NewEntries.{list_if_among}
use Rattle.lineage_index.proofs.new_entries.new_version.Goals as goal

pub returns : goal.returns
returns c keys list a =
    let closed = c.closed_by-closed.ensures keys list a in
    let uses = list_if_among keys list c.args.row.now.key in
    record {
      key_is = refl;
      block_is = refl;
      tx_is = refl;
      closed_is = ap (λ (one : OpenList). one.count) closed ∙ sym (length-map uses (λ
          (u : Use). u.version));
      closed_digest_is = ap (λ (one : OpenList). one.digest) closed;
    }
