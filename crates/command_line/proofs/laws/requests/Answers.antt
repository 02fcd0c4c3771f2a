use Rattle.std.proofs.Common.{◌≡◌, List, Option, refl, sym, ap, codes, Some, Ok, Err}
use Rattle.clap.specs.Walk.{Text}
use Rattle.clap.proofs.OnLiterals.{clap_on_literals}
use Rattle.filters.specs.declared.filter.FilterLanguage.{FilterLanguage}
use Rattle.cql2.specs.declared.column.NumericColumn.{NumericColumn}
use Rattle.layers.specs.Columns.{is_same}
use Rattle.layers.specs.Layer.{LayerParts}
use Rattle.layers.specs.LayerFault.{NotOfRows}
use Rattle.layers.specs.LayerParts.{parts_of}
use Rattle.command_line.specs.Arguments.{program}
use Rattle.command_line.proofs.laws.requests.Goals as goal

pub returns-clause-run : goal.returns-clause-run
unfolding clap_on_literals program
returns-clause-run c = λ run file folder code layer. record {
  taken = refl;
  made = (
    run,
    refl,
    record {
      program = ap (λ (text : Text). Some text) (sym file);
      folder = ap (λ (text : Text). Some text) (sym folder);
      layer = ap (λ (layer : LayerParts). Ok layer) (sym layer);
      code = ap (λ (text : Text). Some text) (sym code);
    },
  );
}

pub returns-clause-table : goal.returns-clause-table
unfolding clap_on_literals program is_same
returns-clause-table c = λ run file folder code layer. record {
  taken = refl;
  made = (
    run,
    refl,
    record {
      program = ap (λ (text : Text). Some text) (sym file);
      folder = ap (λ (text : Text). Some text) (sym folder);
      layer = ap (λ (layer : LayerParts). Ok layer) (sym layer);
      code = ap (λ (text : Text). Some text) (sym code);
    },
  );
}

pub returns-clause-features : goal.returns-clause-features
unfolding clap_on_literals program is_same
returns-clause-features c = λ run file folder code layer. record {
  taken = refl;
  made = (
    run,
    refl,
    record {
      program = ap (λ (text : Text). Some text) (sym file);
      folder = ap (λ (text : Text). Some text) (sym folder);
      layer = ap (λ (layer : LayerParts). Ok layer) (sym layer);
      code = ap (λ (text : Text). Some text) (sym code);
    },
  );
}

pub returns-clause-unformatted : goal.returns-clause-unformatted
unfolding clap_on_literals program
returns-clause-unformatted c = λ request is.
    let none : Err (NotOfRows (codes "columns")) ≡ Ok (parts_of is.made.0.layer) = is.made.2.layer in cc

pub returns-clause-json : goal.returns-clause-json
unfolding clap_on_literals program
returns-clause-json c = λ compile file json unscored. record {
  taken = refl;
  made = (
    compile,
    refl,
    record {
      filter = ap (λ (text : Text). Some text) (sym file);
      language = ap (λ (language : FilterLanguage). Ok language) (sym json);
      score = ap (λ (score : Option NumericColumn). Ok score) (sym unscored);
    },
  );
}

pub returns-clause-shape : goal.returns-clause-shape
unfolding clap_on_literals program
returns-clause-shape c = λ batch file folder shape counties. record {
  taken = refl;
  made = (
    batch,
    refl,
    record {
      addresses = ap (λ (text : Text). Some text) (sym file);
      folder = ap (λ (text : Text). Some text) (sym folder);
      shape = sym shape;
      codes = ap (λ (texts : List Text). Some texts) (sym counties);
    },
  );
}

pub returns-clause-no_shape : goal.returns-clause-no_shape
unfolding clap_on_literals program
returns-clause-no_shape c = λ batch file folder shape counties. record {
  taken = refl;
  made = (
    batch,
    refl,
    record {
      addresses = ap (λ (text : Text). Some text) (sym file);
      folder = ap (λ (text : Text). Some text) (sym folder);
      shape = sym shape;
      codes = ap (λ (texts : List Text). Some texts) (sym counties);
    },
  );
}

pub returns-clause-twice : goal.returns-clause-twice
unfolding clap_on_literals program
returns-clause-twice c = λ request is. let bad = is.taken in cc

pub returns-clause-missing : goal.returns-clause-missing
unfolding clap_on_literals program
returns-clause-missing c = λ request is. let bad = is.taken in cc

pub returns-clause-help : goal.returns-clause-help
unfolding clap_on_literals program
returns-clause-help c = λ request is. let bad = is.taken in cc
