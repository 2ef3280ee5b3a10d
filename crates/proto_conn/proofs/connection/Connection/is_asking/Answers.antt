use Rattle.std.proofs.Common.{◌≡◌, ◌-◌, ℕ, length, nat_lt, ap, ◌∙◌, arith}
use Rattle.proto_conn.specs.Conn.{Conn}
use Rattle.proto_conn.specs.Streaming.{is_asking}
use Rattle.proto_conn.proofs.Numbering.{newest_within, waits_above}
use Rattle.proto_conn.proofs.connection.Connection.is_asking.Goals as goal

pub overflow_sub-asked : goal.overflow_sub-asked
overflow_sub-asked g c =
    let within = newest_within (length c.self.inside.given_up.items) c.self.inside.queue.items c.self.invariant.newest in
    omega (arith, within, c.len.ensures, c.len-2.ensures)

pub returns : goal.returns
returns g c =
    let given : c.len.result ≡ length c.self.inside.given_up.items = omega (arith, c.len.ensures, c.self.inside.given_up.ok) in
    let waits : c.len-2.result ≡ length c.self.inside.queue.items = omega (arith, c.len-2.ensures, c.self.inside.queue.ok) in
    ap (λ (n : ℕ). nat_lt (n - c.len-2.result) c.args.stream) given
    ∙ ap (λ (n : ℕ). nat_lt (length c.self.inside.given_up.items - n) c.args.stream) waits
    ∙ waits_above (length c.self.inside.given_up.items) c.args.stream c.self.inside.queue.items c.self.invariant.newest
    ∙ ap (λ (v : Conn g.row.T.Denot g.row.S.Denot). is_asking c.args.stream v) c.self.view_is
