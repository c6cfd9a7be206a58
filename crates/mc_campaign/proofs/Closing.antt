-- What lanes recorded stays when they are closed.
use Rattle.std.proofs.Common.{List}
use Rattle.std.specs.Prelude.{Option, None}
use Rattle.mc_protocol.specs.declared.actor.Actor.TheVariants as actor
use Rattle.mc_protocol.specs.declared.fault.Fault.{Fault}
use Rattle.mc_code.specs.Code.{Code}
use Rattle.mc_model.specs.declared.sent.Sent.{Sent}
use Rattle.mc_core.specs.Worlds.{World}
use Rattle.mc_lane.specs.Lanes.{LaneRecord}
use Rattle.mc_run.specs.Agreement.{Agree, AreRecorded, LaneRecords}
use Rattle.mc_recorded.specs.Recorded.{IsRecordedBy}
use Rattle.mc_campaign.specs.Outcomes.{closed_lanes}

recorded_closed : {requests : List Sent} {ended : Option Fault} {lane : LaneRecord} → IsRecordedBy requests ended lane
    → IsRecordedBy requests ended (record lane { stream = None })
recorded_closed r = record { sent = r.sent; rest = r.rest; received = r.received; faults = r.faults }

all_recorded_closed : (c : Code) (w : World) (lanes : LaneRecords) → AreRecorded c w lanes → AreRecorded c w (closed_lanes lanes)
all_recorded_closed c w lanes recorded actor.P = recorded_closed (recorded actor.P)
all_recorded_closed c w lanes recorded actor.A = recorded_closed (recorded actor.A)
all_recorded_closed c w lanes recorded actor.B = recorded_closed (recorded actor.B)

pub agree_closed : (c : Code) (w : World) (lanes : LaneRecords) → Agree c w lanes → Agree c w (closed_lanes lanes)
agree_closed c w lanes agree = record {
  fold = agree.fold;
  over = agree.over;
  recorded = all_recorded_closed c w lanes agree.recorded;
}
