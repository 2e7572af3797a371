-- Which presses are rejected, of those that meet no refusal: Block rejects exactly those that find no free channel in their pool, after a retriggered key's
-- release, Stop and Ignore exactly where there are no channels. And what the others get.
use Prim.Native.Nat.{ℕ, zero, suc, ◌<◌}
use mathlib.Core.Path.{◌≡◌, refl, sym, ap, subst, ◌∙◌}
use mathlib.Core.Bool.{Bool, true, cond}
use mathlib.Core.List.{List, [], ◌∷◌}
use mathlib.Core.Logic.{◌↔◌}
use mathlib.Core.Option.{Option, some, none}
use native.Mathlib.Omega.{arith}
use borrow.Author.Tests.{eq-eqb}
use lib.IntN.{ℤ}
use lib.Ieee.{Float}
use lib.ListN.{length, drop}
use lib.Seq.{get_or-set_same}
use Rattle.arithmetic.specs.Outcome.{value}
use Rattle.arithmetic.specs.Pitch.{is_pitch, detuning_of}
use Rattle.arithmetic.specs.Nearest.{nearest_note}
use Rattle.pools.specs.declared.settings.PoolGroupBy.{PoolGroupBy}
use Rattle.pools.specs.declared.settings.PoolingMode.{PoolingMode}
use Rattle.pools.specs.declared.settings.Retrigger.{Retrigger}
use Rattle.pools.specs.declared.settings.PoolingMode.TheVariants.{Block, Stop, Ignore}
use Rattle.channels.specs.Lists.{member, without, first}
use Rattle.channels.specs.ChannelList.{list_rule, present}
use Rattle.channels.specs.Places.{Place}
use Rattle.pools.specs.Pool.{State, Held, empty_pool, pool_of, pool, found, with_pool, with_key, enqueue, freed_in, freed, without_key, held_at, oldest_of, oldest, reclaimed, reclaim_by_mode, reclaim_unless_free, reclaim, released, Press, Pressing, accepted, rejected, pressed_on, pressed, repeated, may_press, unless_held, register_rule}
use Rattle.theorems.specs.PoolCalls.{Call, reached, Rejects, times}
use Rattle.pools.proofs.Models.Views.{pool_small}
use Rattle.pools.proofs.Pools.Presses.{press_made}
use Rattle.pools.proofs.Pools.Releases.{released_found}
use Rattle.pools.proofs.Pools.PressCases.{reclaim_by_mode_none, pressed_free, pressed_none}
use Rattle.theorems.proofs.Pools.Occurrences.{times_cons, times_same}
use Rattle.theorems.proofs.Pools.Settings.{released_same, mode_kept}
use Rattle.theorems.specs.PoolInvariant.{Ok}
use Rattle.theorems.proofs.Pools.OnePool.{pool_ok, free_low}
use Rattle.theorems.proofs.Pools.Changes.{reclaim_ok, released_ok, released_gone}
use Rattle.theorems.proofs.Pools.Invariant.{reached_ok}
use Rattle.channels.proofs.Lists.Laws.{first_rest, first_none}

-- An accepted press is no rejected one.
accepted_not_rejected : {X : Type 0} {c : ℕ} {st : Option ℤ} {z : ℤ} {d : Float} → accepted c st z d ≡ rejected → X
accepted_not_rejected e = absurd (let w : ◌≡◌ {A = ℕ} 0 1 = cc in omega arith)

first_cons : (x : ℕ) (l : List ℕ) → first (x ∷ l) ≡ some x
unfolding first
first_cons x l = refl

no_first : (l : List ℕ) → length l ≡ 0 → first l ≡ none
unfolding first
no_first [] e = refl
no_first (x ∷ l) e = absurd (omega arith)

-- ---- where a channel is free, the press takes the front

module _ (s : State) (key : ℕ) (note : ℤ) (d : Float) where
  pub free_accepts : (c : ℕ) → first (pool s note).free ≡ some c → (pressed s key note d).0 ≡ accepted c none note d
  unfolding reclaim reclaim_unless_free
  free_accepts c e = ap (λ x. x.0) (pressed_free s key note d (reclaimed s none) (rw e) c e)

  -- Block leaves the pool without a free channel
  pub block_rejects : s.mode ≡ Block → first (pool s note).free ≡ none → (pressed s key note d).0 ≡ rejected
  unfolding reclaim reclaim_unless_free reclaim_by_mode
  block_rejects b e = ap (λ x. x.0) (pressed_none s key note d (reclaimed s none) (rw e (ap (λ (m : PoolingMode). reclaim_by_mode m s (oldest s note)) b)) e)

  -- Where no key has a channel there is none to reclaim.
  pub none_held_rejects : first (pool s note).free ≡ none → oldest s note ≡ none → (pressed s key note d).0 ≡ rejected
  unfolding reclaim reclaim_unless_free
  none_held_rejects e o =
      let none_made = ap (reclaim_by_mode s.mode s) o ∙ reclaim_by_mode_none s.mode s in
      ap (λ x. x.0) (pressed_none s key note d (reclaimed s none) (rw e none_made) e)

-- ---- the channel of the longest-held key, once that key is released or ignored

member_front : (k : ℕ) (l : List ℕ) → member k (k ∷ l) ≡ true
member_front k l = rw (eq-eqb k k refl)

module _ (n : ℕ) (s : State) (ok : Ok n s) (note : ℤ) (full : first (pool s note).free ≡ none) (o : Held)
    (at : first (pool s note).order ≡ some o.key) (is : found s o.key ≡ some o.place) where
  -- The key's pool is this one.
  same_pool : pool_of s.group o.place.note ≡ pool_of s.group note
  same_pool =
      let order = (pool s note).order in
      let parts = first_rest order o.key at in
      let h = (pool_ok n s ok note).holds o.key (omega (arith, ap (times o.key) parts, times_cons o.key o.key (drop 1 order), times_same o.key)) in
      let found-so = h.is in
      let same : h.place ≡ o.place = cc in
      sym (ap (λ (p : Place). pool_of s.group p.note) same) ∙ h.here

  freed_front : first (pool (freed s o.key o.place) note).free ≡ some o.place.channel
  unfolding pool freed with_pool freed_in first enqueue
  freed_front =
      rw (same_pool, get_or-set_same s.pools (pool_of s.group note) _ empty_pool (rw ok.pools (pool_small s.group note)))
      (ap (λ (b : Bool).
      let p = pool s note in
      first (cond b (record { free = enqueue p.free o.place.channel; order = without o.key p.order }) p).free)
      (ap (member o.key) (first_rest (pool s note).order o.key at) ∙ member_front o.key (drop 1 (pool s note).order))
      ∙ ap (λ (l : List ℕ). first (enqueue l o.place.channel)) (first_none (pool s note).free full))

  without_key_front : first (pool (without_key (freed s o.key o.place) o.key) note).free ≡ some o.place.channel
  unfolding pool without_key with_key
  without_key_front = freed_front

-- ---- a full pool that has channels

module _ (n : ℕ) (s : State) (ok : Ok n s) (note : ℤ) (full : first (pool s note).free ≡ none) where
  -- One of its keys has held its channel longest.
  pub oldest_there : 0 < n → (o : Held) × (oldest s note ≡ some o) × (first (pool s note).order ≡ some o.key) × (found s o.key ≡ some o.place)
  unfolding oldest oldest_of held_at
  oldest_there h = go (pool s note).order refl
    where
      go : (l : List ℕ) → (pool s note).order ≡ l
          → (o : Held) × (oldest_of s (first (pool s note).order) ≡ some o) × (first (pool s note).order ≡ some o.key) × (found s o.key ≡ some o.place)
      go [] e = absurd (omega (arith, (pool_ok n s ok note).total, ap length (first_none (pool s note).free full), ap length e))
      go (k ∷ l) e =
          let held = (pool_ok n s ok note).holds k (omega (arith, ap (times k) e, times_cons k k l, times_same k)) in
          let at : first (pool s note).order ≡ some k = ap first e ∙ first_cons k l in
          (record { key = k; place = held.place }, rw (at, held.is), at, held.is)

  module _ (key : ℕ) (d : Float) (there : 0 < n) where
    -- Stop: the press gets that key's channel, and its note is reported
    pub stop_accepts : s.mode ≡ Stop
        → (o : Held) × (oldest s note ≡ some o) × ((pressed s key note d).0 ≡ accepted o.place.channel (some o.place.note) note d)
    unfolding reclaim reclaim_unless_free reclaim_by_mode
    stop_accepts m =
        let old = oldest_there there in
        let o = old.0 in
        let made : reclaim s note ≡ reclaimed (without_key (freed s o.key o.place) o.key) (some o.place.note) =
        rw full
        (ap (λ (x : PoolingMode). reclaim_by_mode x s (oldest s note)) m
        ∙ ap (reclaim_by_mode Stop s) old.1
        ∙ ap (λ (t : State). reclaimed t (some o.place.note)) (released_found s o.key o.place old.3))
        in
        (o, old.1, ap (λ x. x.0) (pressed_free s key note d _ made o.place.channel (without_key_front n s ok note full o old.2 old.3)))

    -- Ignore: the same channel, and no note is stopped
    pub ignore_accepts : s.mode ≡ Ignore → (o : Held) × (oldest s note ≡ some o) × ((pressed s key note d).0 ≡ accepted o.place.channel none note d)
    unfolding reclaim reclaim_unless_free reclaim_by_mode
    ignore_accepts m =
        let old = oldest_there there in
        let o = old.0 in
        let made : reclaim s note ≡ reclaimed (freed s o.key o.place) none =
        rw full (ap (λ (x : PoolingMode). reclaim_by_mode x s (oldest s note)) m ∙ ap (reclaim_by_mode Ignore s) old.1)
        in
        (o, old.1, ap (λ x. x.0) (pressed_free s key note d _ made o.place.channel (freed_front n s ok note full o old.2 old.3)))

-- Without channels every press is rejected.
pub none_rejects : (s : State) → Ok 0 s → (key : ℕ) (note : ℤ) (d : Float) → (pressed s key note d).0 ≡ rejected
unfolding oldest oldest_of
none_rejects s ok key note d =
    let p = pool_ok 0 s ok note in
    let order = no_first (pool s note).order (omega (arith, p.total)) in
    none_held_rejects s key note d (no_first (pool s note).free (omega (arith, p.total))) (ap (oldest_of s) order)

-- ---- exactly when a press is rejected

module _ (n : ℕ) (s : State) (ok : Ok n s) (key : ℕ) (note : ℤ) (d : Float) where
  free_or_full : {X : Type 0} → ((c : ℕ) → first (pool s note).free ≡ some c → X) → (first (pool s note).free ≡ none → X) → X
  free_or_full {X} f g = go (first (pool s note).free) refl
    where
      go : (c : Option ℕ) → first (pool s note).free ≡ c → X
      go (some c) e = f c e
      go none e = g e

  pub block_rejects_iff : s.mode ≡ Block → ((pressed s key note d).0 ≡ rejected) ↔ ((pool s note).free ≡ [])
  block_rejects_iff m = (there, back)
    where
      there : (pressed s key note d).0 ≡ rejected → (pool s note).free ≡ []
      there e = free_or_full (λ c f. accepted_not_rejected (sym (free_accepts s key note d c f) ∙ e)) (λ f. first_none (pool s note).free f)

      back : (pool s note).free ≡ [] → (pressed s key note d).0 ≡ rejected
      back e = block_rejects s key note d m (no_first (pool s note).free (ap length e))

  -- If a full pool with channels accepts, only a model without channels rejects.
  rejects_iff_no_channels :
      (first (pool s note).free ≡ none → 0 < n → (pressed s key note d).0 ≡ rejected → ⊥) → ((pressed s key note d).0 ≡ rejected) ↔ (n ≡ 0)
  rejects_iff_no_channels accepts = (there n ok accepts, back)
    where
      there : (n : ℕ) → Ok n s → (first (pool s note).free ≡ none → 0 < n → (pressed s key note d).0 ≡ rejected → ⊥)
          → (pressed s key note d).0 ≡ rejected → n ≡ 0
      there zero ok a e = refl
      there (suc n) ok a e =
          free_or_full (λ c f. accepted_not_rejected (sym (free_accepts s key note d c f) ∙ e)) (λ f. absurd (a f (omega arith) e))

      back : n ≡ 0 → (pressed s key note d).0 ≡ rejected
      back e = none_rejects s (subst (λ (m : ℕ). Ok m s) e ok) key note d

  pub stop_rejects_iff : s.mode ≡ Stop → ((pressed s key note d).0 ≡ rejected) ↔ (n ≡ 0)
  stop_rejects_iff m = rejects_iff_no_channels (λ full h e. accepted_not_rejected (sym (stop_accepts n s ok note full key d h m).2 ∙ e))

  pub ignore_rejects_iff : s.mode ≡ Ignore → ((pressed s key note d).0 ≡ rejected) ↔ (n ≡ 0)
  ignore_rejects_iff m = rejects_iff_no_channels (λ full h e. accepted_not_rejected (sym (ignore_accepts n s ok note full key d h m).2 ∙ e))

-- ---- the theorem, over the rule of the call

-- A press that meets no refusal is made, in the state that its release left.
pub register_pressed : (s : State) (key : ℕ) (hz : Float) → is_pitch hz ≡ true → may_press s key ≡ true
    → register_rule s key hz ≡ value (repeated s key (nearest_note hz) (detuning_of hz (nearest_note hz)))
unfolding register_rule unless_held
register_pressed s key hz p may = rw (p, may) refl

rejected_keeps_state : (s : State) (key : ℕ) (note : ℤ) (d : Float) → (pressed s key note d).0 ≡ rejected → pressed s key note d ≡ (rejected, s)
unfolding pressed pressed_on
rejected_keeps_state s key note d = go (first (pool (reclaim s note).state note).free)
  where
    go : (c : Option ℕ) → (pressed_on c (reclaim s note) s key note d).0 ≡ rejected → pressed_on c (reclaim s note) s key note d ≡ (rejected, s)
    go (some c) e = accepted_not_rejected e
    go none e = refl

rejects_iff_pressed : (s : State) (key : ℕ) (hz : Float) → is_pitch hz ≡ true → may_press s key ≡ true
    → ((pressed (released s key) key (nearest_note hz) (detuning_of hz (nearest_note hz))).0 ≡ rejected) ↔ Rejects s key hz
unfolding repeated
rejects_iff_pressed s key hz p may = (there, press_made s key hz)
  where
    there : (pressed (released s key) key (nearest_note hz) (detuning_of hz (nearest_note hz))).0 ≡ rejected → Rejects s key hz
    there e =
        register_pressed s key hz p may
        ∙ ap (λ (r : Press × State). value (record { released = found s key; press = r.0 }, r.1))
        (rejected_keeps_state (released s key) key (nearest_note hz) (detuning_of hz (nearest_note hz)) e)

module _ (channels : List ℕ) (group : PoolGroupBy) (retrigger : Retrigger) (calls : List Call) (key : ℕ) (hz : Float) (pitch : is_pitch hz ≡ true) where
  module _ (mode : PoolingMode) where
    abbrev after_release : State
    after_release = released (reached channels group mode retrigger calls) key

    released_sound : Ok (length (present (list_rule channels))) after_release
    released_sound =
        released_ok (length (present (list_rule channels))) (reached channels group mode retrigger calls) (reached_ok channels group mode retrigger calls) key

    released_mode : after_release.mode ≡ mode
    released_mode = (released_same (reached channels group mode retrigger calls) key).mode ∙ mode_kept channels group mode retrigger calls

  -- Block rejects exactly the presses that find no free channel in their pool, after a retriggered key's release.
  pub block_rejects_exactly : let s = reached channels group Block retrigger calls in
      may_press s key ≡ true → Rejects s key hz ↔ ((pool (released s key) (nearest_note hz)).free ≡ [])
  block_rejects_exactly may =
      let s = reached channels group Block retrigger calls in
      let so = rejects_iff_pressed s key hz pitch may in
      let ex = block_rejects_iff (length (present (list_rule channels))) (released s key) (released_sound Block) key (nearest_note hz)
      (detuning_of hz (nearest_note hz)) (released_mode Block) in
      (λ e. ex.0 (so.1 e), λ e. so.0 (ex.1 e))

  -- Stop and Ignore reject exactly where there are no channels.
  without_channels : (mode : PoolingMode) → let s = reached channels group mode retrigger calls in
      ((pressed (released s key) key (nearest_note hz) (detuning_of hz (nearest_note hz))).0 ≡ rejected) ↔ (length (present (list_rule channels)) ≡ 0)
      → may_press s key ≡ true → Rejects s key hz ↔ (length s.channels ≡ 0)
  without_channels mode ex may =
      let s = reached channels group mode retrigger calls in
      let ok = reached_ok channels group mode retrigger calls in
      let so = rejects_iff_pressed s key hz pitch may in
      (λ e. ok.channels ∙ ex.0 (so.1 e), λ e. so.0 (ex.1 (sym ok.channels ∙ e)))

  pub stop_rejects_exactly : let s = reached channels group Stop retrigger calls in
      may_press s key ≡ true → Rejects s key hz ↔ (length s.channels ≡ 0)
  stop_rejects_exactly =
      without_channels Stop (stop_rejects_iff _ (after_release Stop) (released_sound Stop) key (nearest_note hz)
      (detuning_of hz (nearest_note hz)) (released_mode Stop))

  pub ignore_rejects_exactly : let s = reached channels group Ignore retrigger calls in
      may_press s key ≡ true → Rejects s key hz ↔ (length s.channels ≡ 0)
  ignore_rejects_exactly =
      without_channels Ignore (ignore_rejects_iff _ (after_release Ignore) (released_sound Ignore) key (nearest_note hz)
      (detuning_of hz (nearest_note hz)) (released_mode Ignore))

-- ---- an accepted press gets one of the model's channels

pressed_channel : (n : ℕ) (s : State) → Ok n s → (key : ℕ) → found s key ≡ none → (note : ℤ) (d : Float) (c : ℕ) (st : Option ℤ) (z : ℤ) (e : Float)
    → (pressed s key note d).0 ≡ accepted c st z e → c < n
unfolding pressed pressed_on
pressed_channel n s ok key new note d c st z e = go (first (pool (reclaim s note).state note).free) refl
  where
    go : (x : Option ℕ) → first (pool (reclaim s note).state note).free ≡ x → (pressed_on x (reclaim s note) s key note d).0 ≡ accepted c st z e → c < n
    go (some x) h f =
        let same : x ≡ c = cc in
        subst (λ (k : ℕ). k < n) same (free_low n (reclaim s note).state (reclaim_ok n s ok key new note).sound note x h)
    go none h f = accepted_not_rejected (sym f)

pub accepted_channel :
    (channels : List ℕ) (group : PoolGroupBy) (mode : PoolingMode) (retrigger : Retrigger) (calls : List Call) (key : ℕ) (hz : Float)
    {r : Pressing × State} {c : ℕ} {st : Option ℤ} {z : ℤ} {d : Float} → register_rule (reached channels group mode retrigger calls) key hz ≡ value r
    → r.0.press ≡ accepted c st z d → c < length (reached channels group mode retrigger calls).channels
accepted_channel channels group mode retrigger calls key hz {c = c} {st = st} {z = z} {d = d} e a =
    let s = reached channels group mode retrigger calls in
    let n = length (present (list_rule channels)) in
    let ok = reached_ok channels group mode retrigger calls in
    let note = nearest_note hz in
    let low = pressed_channel n (released s key) (released_ok n s ok key) key (released_gone s key) note (detuning_of hz note) c st z d
    (press_made s key hz e ∙ a) in
    omega (arith, ok.channels)
