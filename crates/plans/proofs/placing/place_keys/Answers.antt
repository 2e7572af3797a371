-- `placing::place_keys` meets its contract: each turn is one of the pass.
use Rattle.std.proofs.Common.{Option as Optional, Some, ℤ, ◌≡◌, ℕ, ◌+◌, ◌-◌, ◌<◌, ◌≤◌, List, ◌∷◌, true, length, get_or, map, drop, set, refl, sym, ap, ◌∙◌, subst, arith}
use lib.ListN.{length-map, length-replicate, drop_of_length-le}
use lib.Ieee.{Float, nan}
use Rattle.arithmetic.specs.Note.{is_note}
use Rattle.channels.specs.Lists.{Each}
use Rattle.channels.specs.declared.keys.Place.{Place}
use Rattle.channels.specs.Places.{place_of, record_of, place}
use Rattle.std.proofs.lemmas.List.{drop_more}
use Rattle.channels.proofs.Records.{place_record}
use Rattle.plans.specs.declared.placing.Run.{Run}
use Rattle.plans.specs.declared.sorted_keys.SortedKeys.{SortedKeys}
use Rattle.plans.specs.PlanLine.{PlanLine, group}
use Rattle.plans.specs.PlanNumbers.{detuning_of}
use Rattle.plans.specs.Plan.{records_in, key_records}
use Rattle.plans.specs.PlanInternal.{Filled, Assignments, channels_with, line_at, lines_of, slot_of}
use Rattle.plans.proofs.Planning.Planned.{Ready, filled_ready as ready_keys}
use Rattle.plans.proofs.Model.Records.{noted_found, noted_at}
use Rattle.plans.proofs.Model.Views.{lines_kept}
use Rattle.plans.proofs.Lines.SortedKeys.{accepted_few, replicated_at}
use Rattle.plans.proofs.Walk.Pass.{Pass, no_run, some_channel, one_more_channel, pass_begins, pass_next, pass_ends, used_few, own_lines, Each-map_drop}
use Rattle.plans.proofs.placing.place_keys.Goals as goal
use Rattle.plans.proofs.placing.place_keys.Goals.{In-loop-key}

-- the keys, whose order is lent as a list
abbrev in_list : SortedKeys → List ℕ → SortedKeys
in_list s ks = record { order = record { items = ks }; records = s.records; detunings = s.detunings }

ready_in_list : (s : SortedKeys) (ks : List ℕ) → ks ≡ s.order.items → Filled s → Ready (in_list s ks)
ready_in_list s ks e h = subst (λ l. Ready (in_list s l)) (sym e) (ready_keys s h)

pub loop-key-init : goal.loop-key-init
unfolding lines_of
loop-key-init c =
    let s = c.args.keys.now in
    let ks = c.as_slice-key-items.result.now in
    let r = ready_in_list s ks c.as_slice-key-items.ensures.value c.requires in
    pass_begins c.args.by (map (line_at s.records s.detunings) ks) r.ok r.ordered s.detunings s.records _
    (own_lines s.records s.detunings ks).0 r.no_other (λ k. ap (λ (r : Run). r.used) (replicated_at no_run 801 k)) r.long.records
    (length-replicate {A = Run} 801 no_run)

-- ---- in a turn
module _ (c : In-loop-key) where
  abbrev line : ℕ → PlanLine
  line = line_at c.args.keys.now.records c.args.keys.now.detunings

  abbrev ks : List ℕ
  ks = c.as_slice-key-items.result.now

  keys_ready : Ready (in_list c.args.keys.now ks)
  keys_ready = ready_in_list c.args.keys.now ks c.as_slice-key-items.ensures.value c.requires

  abbrev i : ℕ
  i = c.loop-key.key-index

  abbrev x : PlanLine
  x = line (get_or ks i 0)

  abbrev rest : List PlanLine
  rest = map line (drop (i + 1) ks)

  keys_from : drop i ks ≡ get_or ks i 0 ∷ drop (i + 1) ks
  keys_from = drop_more ks i 0 c.loop-key-test.true

  pass : Pass c.args.by (map line ks) c.args.keys.now.detunings c.loop-key.records c.loop-key.runs c.loop-key.count i (x ∷ rest)
  pass =
      subst
      (λ (l : List ℕ). Pass c.args.by (map line ks) c.args.keys.now.detunings c.loop-key.records c.loop-key.runs c.loop-key.count i (map line l)) keys_from
      c.loop-key.invariant

  of_next_line : (P : PlanLine → Type 0) → Each P (lines_of (in_list c.args.keys.now ks)) → P x
  unfolding lines_of
  of_next_line P h = (subst (λ (l : List ℕ). Each P (map line l)) keys_from (Each-map_drop P line ks i h)).0

  a_note : is_note x.note ≡ true
  a_note = of_next_line (λ (y : PlanLine). is_note y.note ≡ true) keys_ready.ok.notes

  key_small : x.key < 256
  key_small = of_next_line (λ (y : PlanLine). y.key < 256) keys_ready.ok.bytes

pub unwrap-requires : goal.unwrap-requires
unwrap-requires c =
    let t = (goal.at.unwrap-requires c).In-loop-key in
    noted_found _ c.place_of.result c.place_of.ensures (rw (pass t).noted.0 (a_note t))

-- the note that was found, and the run of its group
module _ (t : In-loop-key) (r : Optional Place) (e : place r ≡ place_of (get_or t.loop-key.records (x t).key 0)) (p : Place) (h : r ≡ Some p) where
  note_is : p.note.number ≡ (x t).note
  note_is = noted_at _ r e p h ∙ (pass t).noted.0

  module _ (at : ℕ) (u : at ≡ slot_of (group t.args.by p.note.number)) where
    at_is : at ≡ slot_of (group t.args.by (x t).note)
    at_is = u ∙ ap (λ (z : ℤ). slot_of (group t.args.by z)) note_is

    few : (get_or t.loop-key.runs at no_run).used ≤ i t
    few =
        rw at_is
        (used_few t.args.by (map (line t) (ks t)) t.args.keys.now.detunings t.loop-key.records t.loop-key.runs t.loop-key.count (i t) (x t) (rest t) (pass t)
        (a_note t))

    few_keys : i t < 256
    unfolding lines_of
    few_keys = omega (arith, t.loop-key-test.true, accepted_few (lines_of (in_list t.args.keys.now (ks t))) (keys_ready t).ok, length-map (ks t) (line t))

    module _ (n : ℕ) (f d : Float) (v : n ≡ channels_with (get_or t.loop-key.runs at no_run).used f d) where
      some_used : 1 ≤ n
      some_used = omega (arith, some_channel (get_or t.loop-key.runs at no_run).used f d)

      used_most : n ≤ 256
      used_most = omega (arith, one_more_channel (get_or t.loop-key.runs at no_run).used f d, few, few_keys)

pub channels_with-used-requires : goal.channels_with-used-requires
channels_with-used-requires c =
    let t = (goal.at.channels_with-used-requires c).In-loop-key in
    let f = few t c.place_of.result c.place_of.ensures c.unwrap.result c.unwrap.ensures c.slot-at.result c.slot-at.ensures.place in
    let k = few_keys t c.place_of.result c.place_of.ensures c.unwrap.result c.unwrap.ensures c.slot-at.result c.slot-at.ensures.place in
    omega (arith, f, k)

pub overflow_sub-channel : goal.overflow_sub-channel
overflow_sub-channel c =
    let t = (goal.at.overflow_sub-channel c).In-loop-key in
    omega (
      arith,
      some_used t c.place_of.result c.place_of.ensures c.unwrap.result c.unwrap.ensures c.slot-at.result c.slot-at.ensures.place c.channels_with-used.result _
          _ c.channels_with-used.ensures,
    )

pub overflow_cast-channel : goal.overflow_cast-channel
overflow_cast-channel c =
    let t = (goal.at.overflow_cast-channel c).In-loop-key in
    record {
      fits = omega (
        arith,
        used_most t c.place_of.result c.place_of.ensures c.unwrap.result c.unwrap.ensures c.slot-at.result c.slot-at.ensures.place
            c.channels_with-used.result _ _ c.channels_with-used.ensures,
      );
    }

pub loop-key-preserved : goal.loop-key-preserved
loop-key-preserved c =
    let t = (goal.at.loop-key-preserved c).In-loop-key in
    let l = c.loop-key in
    let by = c.args.by in
    let ds = c.args.keys.now.detunings in
    let used = c.channels_with-used.result in
    let raw = c.record.result in
    let note : c.unwrap.result.note.number ≡ (x t).note = note_is t c.place_of.result c.place_of.ensures c.unwrap.result c.unwrap.ensures in
    let at : c.slot-at.result ≡ slot_of (group by (x t).note) =
    at_is t c.place_of.result c.place_of.ensures c.unwrap.result c.unwrap.ensures c.slot-at.result c.slot-at.ensures.place in
    let channels = c.channels_with-used.ensures
    ∙ (λ j. channels_with (get_or l.runs (at j) no_run).used (get_or ds (get_or l.runs (at j) no_run).last nan) (x t).detuning) in
    let found = ap place_of c.record.ensures ∙ ap (λ (z : ℤ). place_of (record_of z (used - 1))) note ∙ place_record (x t).note (a_note t) (used - 1) in
    let p = pass_next by (map (line t) (ks t)) ds l.records l.runs l.count (i t) (x t) (rest t) (pass t) (a_note t) refl (key_small t) used channels
    c.max-count.result c.max-count.ensures raw found in
    subst (λ (k : ℕ). Pass by (map (line t) (ks t)) ds (set l.records (x t).key raw) (set l.runs k (record { used = used; last = (x t).key }))
    c.max-count.result (i t + 1) (rest t)) (sym at) p

pub returns : goal.returns
unfolding lines_of records_in
returns c =
    let s = c.args.keys.now in
    let l = c.loop-key in
    let ds = s.detunings in
    let f = line_at s.records ds in
    let ks = c.as_slice-key-items.result.now in
    let keys_from = c.as_slice-key-items.ensures.value in
    let r = ready_in_list s ks keys_from c.requires in
    let by = c.args.by in
    let nil = drop_of_length-le ks {i = l.key-index} c.loop-key-test.false in
    let p = subst (λ (k : List ℕ). Pass by (map f ks) ds l.records l.runs l.count l.key-index (map f k)) nil l.invariant in
    let few = rw (sym r.long.detunings) at r.ok.bytes in
    let kept = lines_kept ds (map f ks) few r.ok.detunings (own_lines s.records ds ks).1 in
    let read = map detuning_of ds in
    let same : length l.records ≡ length read = p.records_long ∙ sym (length-map ds detuning_of ∙ r.long.detunings) in
    subst (λ (k : List ℕ). Assignments by (map f k) (key_records l.records read) l.count) keys_from
    (pass_ends by (map f ks) r.ok r.ordered l.records read same p.records_long kept ds l.runs l.count l.key-index p)
