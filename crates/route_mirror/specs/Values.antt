-- What contracts see of a mirror.
use Rattle.std.specs.Prelude.{ℕ, Bool, List, map, Option, refl}
use Rattle.std.specs.Coded.{Coded, code_by, coded_ℕ, coded_bool, coded_list, coded_option, coded×}
use Rattle.session_model.specs.declared.network.Network.{Network}
use Rattle.mirror_model.specs.MirrorState.{MirrorState}
use Rattle.mirror_model.specs.MirrorState as model
use Rattle.mirror_model.specs.Routes.{RouteTable}
use Rattle.route_table.specs.RouteTables.{table_code, network_code}
use Rattle.route_mirror.specs.declared.dump.RunningDump.{RunningDump}
use Rattle.route_mirror.specs.Dumps.{dump_of}

-- The port of its peer, the number of the routing table, its state, and the networks that are blocked.
pub record MirrorValue : Type 0 where
  pub peer : ℕ
  pub table : ℕ
  pub state : MirrorState RouteTable
  pub blocked : List Network

-- The value of a mirror's fields.
abbrev pub mirror_value : ℕ → ℕ → Bool → Option RouteTable → List RunningDump → List Network → MirrorValue
mirror_value peer table closed in_force running blocked = record {
  peer = peer;
  table = table;
  state = record { closed = closed; in_force = in_force; running = map dump_of running };
  blocked = blocked;
}

-- ---- codes, by which proofs tell mirrors apart

abbrev pub dump_code : Coded (model.RunningDump RouteTable)
dump_code =
    code_by (ℕ × (RouteTable × Bool)) (coded× coded_ℕ (coded× table_code coded_bool))
    (λ d. (d.stream, (d.table, d.interrupted))) (λ p. record { stream = p.0; table = p.1.0; interrupted = p.1.1 }) (λ _. refl)

abbrev pub state_code : Coded (MirrorState RouteTable)
state_code =
    code_by (Bool × (Option RouteTable × List (model.RunningDump RouteTable))) (coded× coded_bool (coded× (coded_option table_code) (coded_list dump_code)))
    (λ m. (m.closed, (m.in_force, m.running))) (λ p. record { closed = p.0; in_force = p.1.0; running = p.1.1 }) (λ _. refl)

-- The code of mirrors.
abbrev pub mirror_code : Coded MirrorValue
mirror_code =
    code_by (ℕ × (ℕ × (MirrorState RouteTable × List Network))) (coded× coded_ℕ (coded× coded_ℕ (coded× state_code (coded_list network_code))))
    (λ m. (m.peer, (m.table, (m.state, m.blocked))))
    (λ p. record { peer = p.0; table = p.1.0; state = p.1.1.0; blocked = p.1.1.1 }) (λ _. refl)
