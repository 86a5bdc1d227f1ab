-- The agreement of bodies with a scratch device stays from call to call.
use Rattle.std.proofs.Common.{◌≡◌, ℕ, ◌<◌, true, zero, suc, List, [], ◌∷◌, ◌++◌, length, get_or}
use Rattle.std.proofs.Common.{take, Contains, ◌⊎◌, Some, refl, sym, ap, ◌∙◌, subst, inl, inr}
use Rattle.std.specs.List.{slice_get}
use Rattle.std.specs.Option.{option_map}
use Rattle.std.proofs.lemmas.List.Elements.{All-weaker, All-contains, All-contains_itself, All-push}
use Rattle.std.proofs.lemmas.List.Elements.{All-take, All-nil}
use Rattle.std.proofs.lemmas.Option.{slice_get-get_or}
use Rattle.lc_io.specs.Scratch.{ScratchState, is_known, bytes_at, HoldsAt, IsKeptAt, Retains}
use Rattle.lc_io.proofs.Retaining.{kept_stays}
use Rattle.body_store.specs.Bodies.{KeptBody, BodiesState, body_at}
use Rattle.body_store.specs.Agreement.{HasBody, IsBodyOf, Agrees}

-- bodies agree with a device that has kept what it kept
pub agrees_on : (store : BodiesState) (s t : ScratchState) → Retains s t → Agrees store s
    → Agrees store t
agrees_on store s t stays a = record {
  bodies = All-weaker (HasBody s) (HasBody t) (λ one. kept_stays s t one.place one.body stays)
      store.kept a.bodies;
  cached = λ told. a.cached (sym stays.known ∙ told);
}

-- the bodies at hand after a call are among those before it
pub agrees_fewer : (kept : List KeptBody) (old new : List (ℕ × List ℕ)) (s : ScratchState)
    → ((pair : ℕ × List ℕ) → Contains new pair → Contains old pair)
    → Agrees (record { kept = kept; cached = old }) s
    → Agrees (record { kept = kept; cached = new }) s
agrees_fewer kept old new s from a = record {
  bodies = a.bodies;
  cached = λ told. All-weaker (Contains new) (IsBodyOf kept)
      (λ pair c. All-contains (IsBodyOf kept) old pair (a.cached told) (from pair c)) new
      (All-contains_itself new);
}

-- the bodies at hand after a call are among those before it, and one more, which is the one at its
-- index
pub agrees_more : (kept : List KeptBody) (old new : List (ℕ × List ℕ)) (one : ℕ × List ℕ)
    (s : ScratchState)
    → ((pair : ℕ × List ℕ) → Contains new pair → Contains old pair ⊎ (pair ≡ one))
    → (is_known s ≡ true → IsBodyOf kept one)
    → Agrees (record { kept = kept; cached = old }) s
    → Agrees (record { kept = kept; cached = new }) s
agrees_more kept old new one s from is a = record {
  bodies = a.bodies;
  cached = λ told. All-weaker (Contains new) (IsBodyOf kept) (λ pair c. elim (from pair c) [
    | inl d ↦ All-contains (IsBodyOf kept) old pair (a.cached told) d
    | inr e ↦ subst (IsBodyOf kept) (sym e) (is told)
  ]) new (All-contains_itself new);
}

-- a body stays at its index when others follow
get_stays : (kept : List KeptBody) (more : List KeptBody) (index : ℕ) (body : List ℕ)
    → body_at kept index ≡ Some body → body_at (kept ++ more) index ≡ Some body
get_stays [] more index body is = cc
get_stays (one ∷ kept) more zero body is = is
get_stays (one ∷ kept) more (suc index) body is = get_stays kept more index body is

get_last : (kept : List KeptBody) (one : KeptBody)
    → body_at (kept ++ one ∷ []) (length kept) ≡ Some one.body
get_last [] one = refl
get_last (other ∷ kept) one = get_last kept one

-- a body was pushed, which the device keeps
pub agrees_pushed : (store : BodiesState) (one : KeptBody) (s : ScratchState) → HasBody s one
    → Agrees store s
    → Agrees (record { kept = store.kept ++ one ∷ []; cached = store.cached }) s
agrees_pushed store one s has a = record {
  bodies = All-push (HasBody s) store.kept one a.bodies has;
  cached = λ told. All-weaker (IsBodyOf store.kept) (IsBodyOf (store.kept ++ one ∷ []))
      (λ pair is. get_stays store.kept (one ∷ []) pair.0 pair.1 is) store.cached (a.cached told);
}

pub is_last : (kept : List KeptBody) (one : KeptBody)
    → IsBodyOf (kept ++ one ∷ []) (length kept, one.body)
is_last kept one = get_last kept one

-- ---- the body at an index

-- what the device returned is what it keeps
got_is : (s : ScratchState) (place : ℕ) (body got : List ℕ) → IsKeptAt s place body
    → HoldsAt s place got → length got ≡ length body → is_known s ≡ true → body ≡ got
got_is s place body got kept holds same told = sym (kept.held told)
    ∙ sym (ap (bytes_at s place) same) ∙ holds told

pub one_kept : (store : BodiesState) (s : ScratchState) (index : ℕ) (one : KeptBody)
    → Agrees store s → index < length store.kept → one ≡ get_or store.kept index one → HasBody s one
one_kept store s index one a within is = subst (HasBody s) (sym is) (a.bodies index one within)

-- a body that was read is the one at its index
pub body_read : (store : BodiesState) (s : ScratchState) (index : ℕ) (one : KeptBody) (got : List ℕ)
    → Agrees store s → index < length store.kept → one ≡ get_or store.kept index one
    → HoldsAt s one.place got → length got ≡ length one.body → is_known s ≡ true
    → body_at store.kept index ≡ Some got
body_read store s index one got a within is holds same told =
    let here : slice_get store.kept index ≡ Some one = slice_get-get_or store.kept index one within
    ∙ ap Some (sym is) in
    ap (option_map (λ (e : KeptBody). e.body)) here
    ∙ ap Some (got_is s one.place one.body got (one_kept store s index one a within is) holds
    same told)

-- a body at hand is the one at its index
pub body_at_hand : (store : BodiesState) (s : ScratchState) (index : ℕ) (body : List ℕ)
    → Agrees store s → Contains store.cached (index, body) → is_known s ≡ true
    → body_at store.kept index ≡ Some body
body_at_hand store s index body a at_hand told = All-contains (IsBodyOf store.kept) store.cached
    (index, body) (a.cached told) at_hand

-- ---- the first bodies alone

pub agrees_front : (store : BodiesState) (count : ℕ) (s : ScratchState) → Agrees store s
    → Agrees (record { kept = take count store.kept; cached = [] }) s
agrees_front store count s a = record {
  bodies = All-take (HasBody s) count store.kept a.bodies;
  cached = λ told. All-nil
      (IsBodyOf (take count store.kept));
}
