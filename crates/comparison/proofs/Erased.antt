-- A list of calls that is known call by call, with the states between, seen as no more than its run. Assumes nothing.
use Rattle.std.specs.Prelude.{ℕ, List}
use Rattle.algebra.specs.Ops.{Ops}
use Rattle.netlist.specs.declared.line.Line.{Line}
use Rattle.records.specs.Runs.{Run, Event}
use Rattle.checking.specs.declared.checking.Checked.{Checked}
use Rattle.comparison.specs.declared.replaying.Call.{Call}
use Rattle.comparison.specs.declared.replaying.Told.{Told}
use Rattle.comparison.specs.Replays.{Made, Replayed, Ran}
use Rattle.comparison.specs.Replays as replays
use Rattle.comparison.specs.States.{State, MadeBetween, ReplayedFrom, RanFrom, ReplayedOver, RanOver}
use Rattle.comparison.specs.States as states

made_alone : {o : Ops} {work : ℕ} {ls : List Line} {s t : State} {c : Call} {a : Told} {e : Event} → MadeBetween o work ls s c a e t → Made ls c a e
made_alone (states.input i r x) = replays.input i r
made_alone (states.constant v r x) = replays.constant v r
made_alone (states.turn x r y) = replays.turn _ r
made_alone (states.join k x y r z) = replays.join k _ _ r
made_alone (states.check x y r z) = replays.check _ _ r
made_alone (states.lay a r x) = replays.lay a _ r
made_alone (states.compare a b r x) = replays.compare a b _ _ r

replayed_alone : {o : Ops} {work : ℕ} {ls : List Line} {s t : State} {cs : List Call} {ts : List Told} {run : Run} {hs : List ℕ} {fs : List Checked}
    → ReplayedFrom o work ls s cs ts run hs fs t → Replayed ls cs ts run
replayed_alone states.none = replays.none
replayed_alone (states.more c a e before made) = replays.more c a e (replayed_alone before) (made_alone made)

pub ran_alone : {o : Ops} {room n work : ℕ} {ls : List Line} {cs : List Call} {s t : State} {old new : List Told}
    → RanFrom o room n work ls cs s t old new → Ran o room n ls cs t.table old new
ran_alone ran = record {
  run = ran.run;
  replayed = replayed_alone ran.replayed;
  found = ran.found;
  inputs = ran.inputs;
  rest = ran.rest;
}

over_alone : {o : Ops} {work : ℕ} {ls : List Line} {s t : State} {cs : List Call} {ts : List Told} {run : Run}
    → ReplayedOver o work ls s cs ts run t → Replayed ls cs ts run
over_alone states.no_call = replays.none
over_alone (states.one_call c a e before made) = replays.more c a e (over_alone before) (made_alone made)

pub ran_over_alone : {o : Ops} {room n work : ℕ} {ls : List Line} {cs : List Call} {s t : State} {old new : List Told}
    → RanOver o room n work ls cs s t old new → Ran o room n ls cs t.table old new
ran_over_alone ran = record {
  run = ran.run;
  replayed = over_alone ran.replayed;
  found = ran.found;
  inputs = ran.inputs;
  rest = ran.rest;
}
