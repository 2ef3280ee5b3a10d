use Rattle.std.proofs.Common.{◌≡◌, None}
use Rattle.session_model.specs.Awaited.{first_awaiting}
use Rattle.proto_core.proofs.Entries.{found_none, found_elsewhere, found_here}
use Rattle.proto_core.proofs.pending.PendingTable.find.Goals as goal

pub returns-in_err-pending-clause-found : goal.returns-in_err-pending-clause-found
returns-in_err-pending-clause-found g c =
    let none : None ≡ first_awaiting c.args.number c.args.port c.args.self.now = found_none _ _ _ _ c.self.invariant c.self.view_is c.in_err-pending.ensures.value in
    cc

pub returns-then-pending-port-clause-found : goal.returns-then-pending-port-clause-found
returns-then-pending-port-clause-found g c = found_elsewhere _ _ _ _ _ c.self.invariant c.self.view_is c.in_ok-pending.ensures.value c.if-pending-port.true

pub returns-clause-found : goal.returns-clause-found
returns-clause-found g c = found_here _ _ _ _ _ c.self.invariant c.self.view_is c.in_ok-pending.ensures.value c.if-pending-port.false
