-- The options of a repairer as the fields of a struct.
use Rattle.std.specs.Prelude.{ℕ, Bool, ◌==◌, ◌&&◌}
use Rattle.mold_repair.specs.Options.{are_options}
use Rattle.mold_repair.specs.declared.options.RepairOptions.{RepairOptions}
use Rattle.mold_ffi.specs.declared.repairer.mold_repair_options.MoldRepairOptions.{MoldRepairOptions}

-- The length of the struct in bytes.
abbrev pub options_size : ℕ
options_size = 88

-- The defaults. Times are in nanoseconds.
abbrev pub default_options : MoldRepairOptions
default_options = record {
  size = options_size;
  next = 1;
  patience = 0;
  timeout = 50000000;
  ceiling = 1000000000;
  settle = 2000000;
  interval = 1000000;
  window = 65536;
  bucket = 32;
  places = 256;
  servers = 1;
  give_up = 0;
  audit = 0;
  store = 0;
}

-- The options of the repairer with these fields.
abbrev pub options_of : MoldRepairOptions → RepairOptions
options_of fields = record {
  patience = fields.patience;
  timeout = fields.timeout;
  ceiling = fields.ceiling;
  settle = fields.settle;
  interval = fields.interval;
  bucket = fields.bucket;
  places = fields.places;
  servers = fields.servers;
  give_up = fields.give_up;
  audit = fields.audit;
}

-- Whether the fields are of this version, and each number except those of the listener is in its range.
abbrev pub are_fields : MoldRepairOptions → Bool
are_fields fields = (fields.size == options_size) && are_options (options_of fields)
