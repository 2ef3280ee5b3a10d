-- The settings of a run where no others are asked for.
use Rattle.std.specs.Prelude.{false}
use Rattle.session_model.specs.declared.settings.Settings.{Settings}

-- 64 MiB of input, nothing more handed on, the kernel's port, the main table, no number used.
abbrev pub usual : Settings
usual = record {
  limit = 67108864;
  forward_noop = false;
  forward_done = false;
  forward_ack = false;
  peer = 0;
  table = 254;
  start = 0;
}
