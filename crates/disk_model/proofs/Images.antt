-- What a crash may leave of a disk with one pending write, and with none.
use Rattle.std.proofs.Common.{◌≡◌, ℕ, ◌+◌, ◌-◌, ◌≤◌, ◌<◌, false, List, [], ◌∷◌, ◌++◌, length, take, drop, get_or, refl, sym, ◌∙◌, ap, arith, append_assoc}
use Rattle.std.proofs.lemmas.List.{ext_get_or, length-take-le, length-take, length-drop, length-append, get_or-take, get_or-drop, take_at, drop_at}
use Rattle.std.proofs.lemmas.Bool.Decides.{nat_tests}
use Rattle.disk_model.specs.Disk.{IsImage, is_pending, settled_disk, with_pending, bytes_over, Torn}

-- if nothing is pending, a crash leaves the content
pub settled_image : (f c : List ℕ) → IsImage (settled_disk f) c → c ≡ f
settled_image f c image = ext_get_or 0 c f (omega (arith, image.no_shorter, image.no_longer)) (λ i lt. image.same i lt refl)

-- the pending write covers no byte before its range
below : (at n i : ℕ) → i < at → is_pending ((at, n) ∷ []) i ≡ false
below at n i lt = grind (arith, nat_tests)

-- and none after it
above : (at n i : ℕ) → at + n ≤ i → is_pending ((at, n) ∷ []) i ≡ false
above at n i le = grind (arith, nat_tests)

-- if one write is pending, a crash leaves what that write may have left
pub torn_image : (at n : ℕ) (f g c : List ℕ) → at ≤ length f → Torn at n f g → IsImage (with_pending at n g (settled_disk f)) c → Torn at n f c
torn_image at n f g c within torn image = record {
  before = ext_get_or 0 (take at c) (take at f) (omega (arith, length-take at c, length-take at f, image.no_shorter)) front;
  after = ext_get_or 0 (drop (at + n) c) (drop (at + n) f) (omega (arith, length-drop (at + n) c, length-drop (at + n) f, image.no_shorter, image.no_longer)) back;
  no_shorter = image.no_shorter;
  no_longer = image.no_longer;
}
  where
    front : (i : ℕ) → i < length (take at c) → get_or (take at c) i 0 ≡ get_or (take at f) i 0
    front i lt =
        let low : i < at = omega (arith, length-take at c) in
        let short : i < length c = omega (arith, length-take at c) in
        get_or-take at c i 0 low ∙ image.same i short (below at n i low) ∙ sym (get_or-take at g i 0 low) ∙ ap (λ (l : List ℕ). get_or l i 0) torn.before

    back : (i : ℕ) → i < length (drop (at + n) c) → get_or (drop (at + n) c) i 0 ≡ get_or (drop (at + n) f) i 0
    back i lt =
        let short : at + n + i < length c = omega (arith, length-drop (at + n) c) in
        get_or-drop (at + n) c i 0 ∙ image.same (at + n + i) short (above at n (at + n + i) (omega arith)) ∙ sym (get_or-drop (at + n) g i 0) ∙ ap (λ (l : List ℕ). get_or l i 0) torn.after

-- a write that is complete is among those that may be torn
pub overwritten_torn : (at : ℕ) (bytes f : List ℕ) → at ≤ length f → Torn at (length bytes) f (bytes_over at bytes f)
overwritten_torn at bytes f within =
    let front : length (take at f) ≡ at = length-take-le at f within in
    let both : length (take at f ++ bytes) ≡ at + length bytes = omega (arith, front, length-append (take at f) bytes) in
    let long : length (bytes_over at bytes f) ≡ at + length bytes + (length f - (at + length bytes)) = omega (arith, both, length-append (take at f ++ bytes) (drop (at + length bytes) f), length-drop (at + length bytes) f) in
    record {
      before = ap (take at) (append_assoc (take at f) bytes (drop (at + length bytes) f)) ∙ take_at (take at f) (bytes ++ drop (at + length bytes) f) at front;
      after = drop_at (take at f ++ bytes) (drop (at + length bytes) f) (at + length bytes) both;
      no_shorter = omega (arith, long);
      no_longer = omega (arith, long);
    }
