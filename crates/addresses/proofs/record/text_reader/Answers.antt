use Rattle.std.proofs.Common.{◌∙◌, inr}
use Rattle.csv.specs.Reading.{strip_bom}
use Rattle.addresses.proofs.record.text_reader.Goals as goal

pub returns : goal.returns
unfolding strip_bom
returns c =
    let made = c.from_reader.ensures in
    let setup = c.flexible.ensures in
    let headers = c.has_headers.ensures in
    record {
      config = rw (setup, headers) at made.config ∙ c.new.ensures.config;
      plain = rw (setup, headers) at made.trim ∙ c.new.ensures.trim;
      state = made.state;
      ready = inr (inr (rw (setup, headers) at made.has_headers, made.headers));
      source = rw (c.chain-marked.ensures.bytes, c.as_slice.ensures) at made.source;
    }
