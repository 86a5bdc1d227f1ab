-- Bytes are read as a header exactly if they begin with its spelling.
use Rattle.std.proofs.Common.{ℕ, List, refl, arith}
use Rattle.byte_fields.proofs.Laws.{IsField, renamed, then_field, made_field}
use Rattle.byte_fields.proofs.Pieces.{piece_field, number_piece, bytes_piece, wide16, wide32, wide64}
use Rattle.byte_fields.proofs.Fields.{key_field}
use Rattle.prov_entry.specs.declared.limits.TheConstants.{MAX_LINKS}
use Rattle.prov_entry.specs.declared.entry.Link.{Link}
use Rattle.prov_entry.specs.declared.entry.Header.{Header}
use Rattle.prov_entry.specs.Spelling.{IsLink, IsHeader, link_fields, header_fields}
use Rattle.entry_views.specs.Codecs.{Codec}
use Rattle.entry_views.specs.Reading.{link_of, link_at, header_of, header_at}
use Rattle.entry_views.specs.ShortLists.{short_list_field}

abbrev link_parts : Link → ℕ × List ℕ
link_parts link = (link.block, link.digest.0)

-- What is read as a link is spelled so, and the other way round.
pub link_field : IsField link_at link_fields IsLink
unfolding link_at
link_field =
    renamed (made_field link_of link_parts (then_field (piece_field (number_piece wide32)) (piece_field (bytes_piece 32))) (λ parts is. refl))
    (λ link is. record { block_fits = is.0.0; digest_fits = is.0.1 }) (λ link is. ((is.block_fits, is.digest_fits), refl)) (λ link is. refl)

abbrev header_parts : Header → List ℕ × (ℕ × (ℕ × (List ℕ × (ℕ × (List ℕ × List Link)))))
header_parts header = (header.key, (header.block, (header.tx, (header.body.0, (header.closed, (header.closed_digest.0, header.links))))))

-- What is read as a header is spelled so, and the other way round.
pub header_field : IsField header_at header_fields IsHeader
unfolding header_at
header_field =
    let digest = piece_field (bytes_piece 32) in
    renamed (made_field header_of header_parts (then_field key_field (then_field (piece_field (number_piece wide32)) (then_field (piece_field (number_piece wide16)) (then_field digest (then_field (piece_field (number_piece wide64)) (then_field digest (short_list_field MAX_LINKS (omega arith) link_field))))))) (λ parts is. refl))
    (λ header is. let p = is.0 in record { key_is_key = p.0; block_fits = p.1.0; tx_fits = p.1.1.0; body_fits = p.1.1.1.0; closed_fits = p.1.1.1.1.0; closed_digest_fits = p.1.1.1.1.1.0; few_links = p.1.1.1.1.1.1.0; links_are_links = p.1.1.1.1.1.1.1 })
    (λ header is. ((is.key_is_key, (is.block_fits, (is.tx_fits, (is.body_fits, (is.closed_fits, (is.closed_digest_fits, (is.few_links, is.links_are_links))))))), refl))
    (λ header is. refl)

-- How headers are spelled and read.
abbrev pub header_codec : Codec Header
header_codec = record { fields = header_fields; lawful = IsHeader; read = header_at; agrees = header_field }
