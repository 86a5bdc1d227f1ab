-- The content of a machine in memory is always among what a crash may leave.
use Rattle.std.proofs.Common.{◌≡◌, ℕ, ◌+◌, ◌≤◌, max, List, [], ◌∷◌, ◌++◌, length, take, drop, refl, subst, arith}
use Rattle.std.specs.Prelude.{Some}
use Rattle.std.proofs.lemmas.List.{length-append, length-take, length-drop}
use Rattle.lc_io.specs.Disk.{DiskState}
use Rattle.disk_model.specs.Disk.{IsImage, settled_disk, bytes_over}
use Rattle.disk_model.specs.Machine.{Call, Wrote, FailedWrite, Synced, Told, Idle, after_call, disk_after_calls, MachineState, disk_of}

overwritten_longer : (at : ℕ) (bytes content : List ℕ) → length content ≤ length (bytes_over at bytes content)
overwritten_longer at bytes content = omega (arith, length-append (take at content ++ bytes) (drop (at + length bytes) content), length-append (take at content) bytes, length-take at content, length-drop (at + length bytes) content)

overwritten_end : (at : ℕ) (bytes content : List ℕ) → length (bytes_over at bytes content) ≤ max (length content) (at + length bytes)
overwritten_end at bytes content = omega (arith, length-append (take at content ++ bytes) (drop (at + length bytes) content), length-append (take at content) bytes, length-take at content, length-drop (at + length bytes) content)

one_call : (state : DiskState) (call : Call) → IsImage state state.content → IsImage (after_call state call) (after_call state call).content
one_call state (Wrote at bytes) image = record {
  no_shorter = omega (arith, image.no_shorter, overwritten_longer at bytes state.content);
  no_longer = omega (arith, image.no_longer, overwritten_end at bytes state.content);
  same = λ i lt clear. refl;
}
one_call state (FailedWrite at count) image = record {
  no_shorter = image.no_shorter;
  no_longer = omega (arith, image.no_longer);
  same = λ i lt clear. refl;
}
one_call state Synced image = record { no_shorter = omega arith; no_longer = omega arith; same = λ i lt clear. refl }
one_call state (Told bytes) image = image
one_call state Idle image = image

all_calls : (state : DiskState) (calls : List Call) → IsImage state state.content → IsImage (disk_after_calls state calls) (disk_after_calls state calls).content
all_calls state [] image = image
all_calls state (call ∷ calls) image = all_calls (after_call state call) calls (one_call state call image)

-- A crash at any moment may leave the content itself.
pub content_is_image : (m : MachineState) (t : ℕ) (state : DiskState) → disk_of m t ≡ Some state → IsImage state state.content
content_is_image m t state told =
    let replay : DiskState = disk_after_calls (settled_disk m.first) (take t m.calls) in
    let same : replay ≡ state = cc told in
    let first : IsImage (settled_disk m.first) m.first = record { no_shorter = omega arith; no_longer = omega arith; same = λ i lt clear. refl } in
    subst (λ (s : DiskState). IsImage s s.content) same (all_calls (settled_disk m.first) (take t m.calls) first)
