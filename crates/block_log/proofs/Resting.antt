-- What a step leaves of a disk with nothing pending, and how steps follow each other.
use Rattle.std.proofs.Common.{◌≡◌, ℕ, ◌≤◌, true, List, length, refl, sym, ◌∙◌, ap, subst, arith}
use Rattle.std.specs.Prelude.{Option, Some, None, Result}
use Rattle.std.specs.Option.{option_map, is_some}
use Rattle.lc_io.specs.Disk.{DiskState, Turns}
use Rattle.disk_model.specs.Disk.{IsImage, settled_disk, disk_after_write, bytes_over, Torn, Writes, Syncs, Keeps, Rests, content_of}
use Rattle.disk_model.proofs.Images.{settled_image, overwritten_torn}
use Rattle.disk_model.proofs.Moments.{started, then_keeps, weaker}
use Rattle.disk_model.proofs.Calls.{write_keeps, sync_keeps, some_is}
use Rattle.block_log.specs.Steps.{synced_write}

pub rests_at : (P : List ℕ → Type 0) (state : Option DiskState) (content : List ℕ) → Rests state P → content_of state ≡ Some content → (state ≡ Some (settled_disk content)) × P content
rests_at P None content rests told = absurd (cc told)
rests_at P (Some s) content rests told =
    let same : s.content ≡ content = cc told in
    (ap Some (rests.0 ∙ ap settled_disk same), subst P same rests.1)

pub rests_weaker : (P Q : List ℕ → Type 0) (state : Option DiskState) → Rests state P → ((c : List ℕ) → P c → Q c) → Rests state Q
rests_weaker P Q None rests leads = tt
rests_weaker P Q (Some s) rests leads = (rests.0, leads s.content rests.1)

pub rests_some : (P : List ℕ → Type 0) (state : Option DiskState) → Rests state P → is_some state ≡ true → (content : List ℕ) × (state ≡ Some (settled_disk content)) × P content
rests_some P None rests some = absurd (cc some)
rests_some P (Some s) rests some = (s.content, ap Some rests.0, rests.1)

pub rests_on : (P Q : List ℕ → Type 0) (at : ℕ) (bytes : List ℕ) (state new : Option DiskState) → Rests state P → new ≡ synced_write at bytes state → ((c : List ℕ) → P c → Q (bytes_over at bytes c)) → Rests new Q
rests_on P Q at bytes None new rests is leads = subst (λ n. Rests n Q) (sym is) tt
rests_on P Q at bytes (Some s) new rests is leads = subst (λ n. Rests n Q) (sym is) (refl, leads s.content rests.1)

-- if the content is known at the end, it was known before
pub told_before : (state new : Option DiskState) (at : ℕ) (bytes now : List ℕ) → new ≡ synced_write at bytes state → content_of new ≡ Some now → (content : List ℕ) × (content_of state ≡ Some content) × (now ≡ bytes_over at bytes content)
told_before None new at bytes now is told = absurd (cc (is, told))
told_before (Some s) new at bytes now is told = (s.content, refl, cc (is, told))

pub told_some : (state : Option DiskState) (content : List ℕ) → content_of state ≡ Some content → is_some state ≡ true
told_some None content told = absurd (cc told)
told_some (Some s) content told = refl

torn_none : (at n : ℕ) (f : List ℕ) → Torn at n f f
torn_none at n f = record { before = refl; after = refl; no_shorter = omega arith; no_longer = omega arith }

module _ {D : Type 0} (now : D → ℕ) (disk : D → ℕ → Option DiskState) where
  -- before the first step
  pub rests_keeps : (old : D) (P : List ℕ → Type 0) (content : List ℕ) → disk old (now old) ≡ Some (settled_disk content) → P content → Keeps now disk old old P
  rests_keeps old P content rests here = started now disk old P (λ s c is image. subst P (sym (settled_image content c (subst (λ t. IsImage t c) (some_is _ _ _ rests is) image))) here)

  -- the write of a step, and its sync
  pub step_write : {T E : Type 0} (old mid : D) (at : ℕ) (bytes content : List ℕ) (result : Result T E) → disk old (now old) ≡ Some (settled_disk content) → at ≤ length content → Writes now disk old mid at bytes result → Keeps now disk old mid (Torn at (length bytes) content)
  step_write old mid at bytes content result rests within writes =
      write_keeps now disk old old mid (Torn at (length bytes) content) at bytes content result (rests_keeps old (Torn at (length bytes) content) content rests (torn_none at (length bytes) content)) rests within writes (λ c torn. torn)

  pub step_sync : {T E : Type 0} (old mid new : D) (at : ℕ) (bytes content : List ℕ) (result : Result T E) → disk old (now old) ≡ Some (settled_disk content) → at ≤ length content
      → Keeps now disk old mid (Torn at (length bytes) content) → Turns now disk old mid (option_map (disk_after_write at bytes) (disk old (now old))) → Syncs now disk mid new result → Keeps now disk old new (Torn at (length bytes) content)
  step_sync old mid new at bytes content result rests within so_far turn syncs =
      sync_keeps now disk old mid new (Torn at (length bytes) content) (disk_after_write at bytes (settled_disk content)) result so_far (turn.last ∙ ap (option_map (disk_after_write at bytes)) rests) syncs (overwritten_torn at bytes content within)

  -- one step more, over bytes of which Q holds
  pub then_step : (old mid new : D) (P Q : List ℕ → Type 0) (at n : ℕ) (content : List ℕ) → content_of (disk old (now old)) ≡ Some content → Keeps now disk old mid P → Rests (disk mid (now mid)) Q
      → ((content : List ℕ) → disk mid (now mid) ≡ Some (settled_disk content) → Keeps now disk mid new (Torn at n content)) → ((content : List ℕ) → Q content → (c : List ℕ) → Torn at n content c → P c) → Keeps now disk old new P
  then_step old mid new P Q at n content told so_far rests step leads =
      let m = rests_some Q (disk mid (now mid)) rests (so_far.told ∙ told_some (disk old (now old)) content told) in
      then_keeps now disk old mid new P so_far (weaker now disk mid new (Torn at n m.0) P (step m.0 m.1) (leads m.0 m.2))

  -- one step after another
  pub two_steps : (old mid new : D) (P : List ℕ → Type 0) (first_at : ℕ) (bytes : List ℕ) (second_at second_size : ℕ) (content : List ℕ) → disk old (now old) ≡ Some (settled_disk content) → Keeps now disk old mid (Torn first_at (length bytes) content)
      → ((c : List ℕ) → Torn first_at (length bytes) content c → P c) → disk mid (now mid) ≡ synced_write first_at bytes (disk old (now old))
      → ((content : List ℕ) → disk mid (now mid) ≡ Some (settled_disk content) → Keeps now disk mid new (Torn second_at second_size content)) → ((c : List ℕ) → Torn second_at second_size (bytes_over first_at bytes content) c → P c) → Keeps now disk old new P
  two_steps old mid new P first_at bytes second_at second_size content rests first first_leads turn second second_leads =
      let staged = bytes_over first_at bytes content in
      then_keeps now disk old mid new P (weaker now disk old mid (Torn first_at (length bytes) content) P first first_leads)
      (weaker now disk mid new (Torn second_at second_size staged) P (second staged (turn ∙ ap (synced_write first_at bytes) rests)) second_leads)
