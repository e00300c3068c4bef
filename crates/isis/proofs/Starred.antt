-- The starred cases hold: the definitions are computed on their bytes.
use mathlib.Core.Path.{refl}
use Rattle.isis.specs.Starred.{Starred}
use Rattle.isis.proofs.Computing.{computing}

pub starred : Starred
unfolding computing
starred =
    record {
      empty_run = record { metrics = refl; export = refl };
      nothing = refl;
      msg = record { metrics = refl; export = refl };
      room44 = refl;
      room43 = refl;
      mzg = record { metrics = refl; export = refl };
      msz = record { metrics = refl; export = refl };
      named_empty = record { metrics = refl; export = refl };
      no_bit_set = record { metrics = refl; export = refl };
      standard6 = record { metrics = refl; export = refl };
      first_counts = record { metrics = refl; export = refl };
      user0 = record { metrics = refl; export = refl };
      long_mask = record { metrics = refl; export = refl };
      short_asla = record { metrics = refl; export = refl };
      wrong_length = record { metrics = refl; export = refl };
      cut_short = record { metrics = refl; export = refl };
    }
