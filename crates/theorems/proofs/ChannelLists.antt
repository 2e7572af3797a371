-- Channel lists: the first offending entry decides, with 6 or 7, and a list that is taken has few channels, all low and different.
use mathlib.Core.Path.{◌≡◌, refl}
use mathlib.Core.List.{List, []}
use mathlib.Core.Logic.{◌⊎◌, inl, inr}
use Prim.Native.Nat.{ℕ, ◌≤◌}
use native.Mathlib.Omega.{arith}
use lib.ListN.{length}
use Rattle.arithmetic.specs.Outcome.{Outcome, value, refused}
use Rattle.channels.specs.ChannelList.{entry_rule, list_rule, present}
use Rattle.channels.specs.FirstRefusal.{Offence}
use Rattle.theorems.specs.ChannelLists.{DistinctChannels}
use Rattle.channels.proofs.Lists.FirstRefusal.{refused_offence}
use Rattle.channels.proofs.Lists.Pigeonhole.{fresh_distinct}
use Rattle.channels.proofs.ChannelLists.{entry_refuses, listed_channels, channels_fresh, channels_low, channels_few}

-- A list that is refused is refused by its first offence.
pub channel_list_offence : (cs : List ℕ) (n : ℕ) → list_rule cs ≡ refused n → Offence entry_rule [] cs n
unfolding list_rule
channel_list_offence cs n e = refused_offence entry_rule [] cs n e

-- A refusal's number is 6 or 7.
pub channel_list_numbers : (cs : List ℕ) (n : ℕ) → list_rule cs ≡ refused n → (n ≡ 6) ⊎ (n ≡ 7)
channel_list_numbers cs n e = let o = channel_list_offence cs n e in go ((entry_refuses o.values o.entry n).0 o.wrong)
  where
    go : {P Q R : Type 0} → ((P × (n ≡ 6)) ⊎ (Q × (R × (n ≡ 7)))) → (n ≡ 6) ⊎ (n ≡ 7)
    go (inl h) = inl h.1
    go (inr h) = inr h.1.1

-- A listed list is the one that was given: at most sixteen entries, none of them twice, each below 16.
pub listed_well : (cs l : List ℕ) → list_rule cs ≡ value l → (l ≡ cs) × (length l ≤ 16) × DistinctChannels l
listed_well cs l e =
    let given = listed_channels cs l e in
    rw given.0 (refl, channels_few cs given.1, (fresh_distinct [] cs (channels_fresh [] cs given.1), channels_low [] cs given.1))

-- However a model or a tuner is opened, its channels are at most sixteen, all different, each below 16: a refused list opens one without channels.
pub channels_different : (cs : List ℕ) → let l = present (list_rule cs) in (length l ≤ 16) × DistinctChannels l
channels_different cs = go (list_rule cs) refl
  where
    go : (o : Outcome (List ℕ)) → list_rule cs ≡ o → let l = present o in (length l ≤ 16) × DistinctChannels l
    go (value l) e = let w = listed_well cs l e in (w.1, w.2)
    go (refused n) e = (omega arith, (tt, λ i h. absurd (let z : ⊥ = omega arith in z)))
