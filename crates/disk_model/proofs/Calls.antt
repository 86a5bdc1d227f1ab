-- What a write and a sync leave, whatever they return.
use Rattle.std.proofs.Common.{◌≡◌, inl, inr, ℕ, ◌≤◌, List, length, refl, sym, ◌∙◌, ap, subst, arith}
use Rattle.std.specs.Prelude.{Option, Some, None, Result, Ok, Err}
use Rattle.std.specs.Option.{option_map, is_some}
use Rattle.lc_io.specs.Disk.{DiskState, Stays}
use Rattle.disk_model.specs.Disk.{IsImage, settled_disk, with_pending, disk_after_write, bytes_over, Torn, Writes, Syncs, Keeps, content_of, IsSettled}
use Rattle.disk_model.proofs.Images.{torn_image, overwritten_torn, settled_image}
use Rattle.disk_model.proofs.Moments.{goes_on}

-- if nothing is pending, the content is the whole state
pub settled_at : (state : Option DiskState) (f : List ℕ) → IsSettled state → content_of state ≡ Some f → state ≡ Some (settled_disk f)
settled_at None f rests is = absurd (cc is)
settled_at (Some s) f rests is =
    let same : s.content ≡ f = cc is in
    ap Some (rests ∙ ap settled_disk same)

-- if the content is known, so is the state
pub told_from : (state : Option DiskState) (f : List ℕ) → content_of state ≡ Some f → (s : DiskState) × (state ≡ Some s) × (s.content ≡ f)
told_from None f is = absurd (cc is)
told_from (Some s) f is = (s, refl, cc is)

-- there is one state at a moment
pub some_is : (state : Option DiskState) (s t : DiskState) → state ≡ Some s → state ≡ Some t → t ≡ s
some_is state s t a b = cc (a, b)

module _ {D : Type 0} (now : D → ℕ) (disk : D → ℕ → Option DiskState) where
  -- if the disk was known before a call, it is known after it
  still_some : (state : Option DiskState) (s : DiskState) (f : DiskState → DiskState) → state ≡ Some s → is_some (option_map f state) ≡ is_some state
  still_some None s f is = refl
  still_some (Some t) s f is = refl

  -- a write, whatever it returns, on a disk with nothing pending: P holds of each content that it
  -- may leave
  pub write_keeps : {T E : Type 0} (old mid new : D) (P : List ℕ → Type 0) (at : ℕ) (bytes f : List ℕ) (result : Result T E) → Keeps now disk old mid P → disk mid (now mid) ≡ Some (settled_disk f) → at ≤ length f → Writes now disk mid new at bytes result → ((c : List ℕ) → Torn at (length bytes) f c → P c) → Keeps now disk old new P
  write_keeps old mid new P at bytes f (Ok _) so_far rests within turn here =
      goes_on now disk old mid new P (option_map (disk_after_write at bytes) (disk mid (now mid))) so_far turn (still_some _ _ _ rests)
      (λ s c is image.
      let same : s ≡ disk_after_write at bytes (settled_disk f) = some_is _ _ _ (ap (option_map (disk_after_write at bytes)) rests) is in
      here c (torn_image at (length bytes) f (bytes_over at bytes f) c within (overwritten_torn at bytes f within) (subst (λ t. IsImage t c) same image)))
  write_keeps old mid new P at bytes f (Err _) so_far rests within (inl stays) here = goes_on now disk old mid new P (disk mid (now mid)) so_far stays refl (λ s c is image. so_far.each (now mid) s c so_far.later (omega arith) is image)
  write_keeps old mid new P at bytes f (Err _) so_far rests within (inr (content, torn, turn)) here =
      goes_on now disk old mid new P (option_map (with_pending at (length bytes) content) (disk mid (now mid))) so_far turn (still_some _ _ _ rests)
      (λ s c is image.
      let same : s ≡ with_pending at (length bytes) content (settled_disk f) = some_is _ _ _ (ap (option_map (with_pending at (length bytes) content)) rests) is in
      here c (torn_image at (length bytes) f content c within (torn (settled_disk f) rests) (subst (λ t. IsImage t c) same image)))

  -- a sync, whatever it returns: P holds of the content
  pub sync_keeps : {T E : Type 0} (old mid new : D) (P : List ℕ → Type 0) (s : DiskState) (result : Result T E) → Keeps now disk old mid P → disk mid (now mid) ≡ Some s → Syncs now disk mid new result → P s.content → Keeps now disk old new P
  sync_keeps old mid new P s (Ok _) so_far is turn here =
      goes_on now disk old mid new P (option_map (λ s. settled_disk s.content) (disk mid (now mid))) so_far turn (still_some _ _ _ is)
      (λ t c at image.
      let same : t ≡ settled_disk s.content = some_is _ _ _ (ap (option_map (λ s. settled_disk s.content)) is) at in
      subst P (sym (settled_image s.content c (subst (λ t. IsImage t c) same image))) here)
  sync_keeps old mid new P s (Err _) so_far is stays here = goes_on now disk old mid new P (disk mid (now mid)) so_far stays refl (λ s c is image. so_far.each (now mid) s c so_far.later (omega arith) is image)

  -- a call that leaves the disk as it was
  pub stay_keeps : (old mid new : D) (P : List ℕ → Type 0) → Keeps now disk old mid P → Stays now disk mid new → Keeps now disk old new P
  stay_keeps old mid new P so_far stays = goes_on now disk old mid new P (disk mid (now mid)) so_far stays refl (λ s c is image. so_far.each (now mid) s c so_far.later (omega arith) is image)
