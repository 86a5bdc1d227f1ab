-- Link i begins 36 · i bytes after the first.
use Rattle.std.proofs.Common.{◌≡◌, ℕ, zero, suc, ◌+◌, ◌*◌, ◌<◌, List, [], length, drop, slice_get, Result, Ok, sym, ap, subst, ◌∙◌, arith}
use Rattle.std.specs.List.{concat}
use Rattle.std.specs.Result.{result_ok}
use Rattle.std.proofs.lemmas.List.{drop_at, drop-drop, length-append}
use Rattle.byte_fields.specs.declared.fault.Fault.{Fault}
use Rattle.byte_fields.specs.Reader.{fault_left, Reads}
use Rattle.byte_fields.specs.Reading.{items_at}
use Rattle.byte_fields.specs.Spelling.{IsBytes}
use Rattle.byte_fields.proofs.Laws.{IsBytes-after}
use Rattle.prov_entry.specs.declared.entry.Link.{Link}
use Rattle.prov_entry.specs.Spelling.{link_fields}
use Rattle.entry_views.specs.Items.{items_read, AreRead}
use Rattle.entry_views.specs.Reading.{link_at}
use Rattle.entry_views.specs.Headers.{link_field}
use Rattle.entry_views.proofs.Items.{split, none_read, nth, this_item}

-- a link has 36 bytes
after_link : (bytes : List ℕ) (link : Link) (after : List ℕ) → IsBytes bytes → link_at bytes ≡ Ok (link, after) → IsBytes after × (after ≡ drop 36 bytes)
after_link bytes link after fits e =
    let t = link_field.takes bytes link after fits e in
    let spelled : List ℕ = concat (link_fields link) in
    let long : length spelled ≡ 36 = omega (arith, t.is.digest_fits, length-append link.digest.0 []) in
    (IsBytes-after spelled after (subst IsBytes t.parts fits), sym (ap (drop 36) t.parts ∙ drop_at spelled after 36 long))

-- after i links, 36 · i bytes were read
after_links : (i : ℕ) (bytes : List ℕ) (links : List Link) (after : List ℕ) → IsBytes bytes → items_at link_at i bytes ≡ Ok (links, after) → after ≡ drop (36 * i) bytes
after_links zero bytes links after fits e = sym (none_read link_at bytes links after e).1
after_links (suc i) bytes links after fits e =
    let s = split link_at i bytes links after e in
    let one = after_link bytes s.first s.after fits s.first_read in
    let index : 36 + 36 * i ≡ 36 * suc i = omega arith in
    after_links i s.after s.others after one.0 s.others_read ∙ ap (drop (36 * i)) one.1 ∙ drop-drop (36 * i) 36 bytes ∙ ap (λ (n : ℕ). drop n bytes) index

pub link_there : (count i : ℕ) (bytes : List ℕ) → IsBytes bytes → AreRead (items_at link_at count bytes) → i < count → (from : List ℕ) → from ≡ drop (36 * i) bytes → (result : Result Link Fault) (left : List ℕ) → Reads fault_left result (link_at from) left
    → result_ok result ≡ slice_get (items_read (items_at link_at count bytes)) i
link_there count i bytes fits are lt from from_is result left read =
    let n = nth link_at count i bytes are lt in
    let same : n.from ≡ from = after_links i bytes n.before n.from fits n.before_read ∙ sym from_is in
    this_item link_at n.value n.after from (ap link_at (sym same) ∙ n.read) result left read ∙ sym n.there
