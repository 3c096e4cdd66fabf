use Rattle.time_components.proofs.NumberLemmas.{run_fits}
use Rattle.time_components.proofs.component.numbers.run.Goals as goal

pub returns : goal.returns
returns g c = run_fits g.T.Integer.value g.T.Integer.greatest c.args.padding g.row.N g.row.M c.args.input.now c.n_to_m_digits_padded.result
    c.requires.fits c.n_to_m_digits_padded.ensures
