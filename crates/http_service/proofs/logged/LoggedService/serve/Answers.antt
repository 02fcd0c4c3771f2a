use Rattle.http_service.proofs.logged.LoggedService.serve.Goals as goal

pub returns : goal.returns
returns g c = let served = c.serve_request-served in record {
  has_served = record {
    result = served.result.result;
    answered = served.new.state;
    is_served = served.ensures.served;
    returns_request_read = served.ensures.request_read;
    summary = served.result.summary;
    is_summarized = served.ensures.summarized;
    counts = c.count.ensures;
    closes = c.close_of.ensures;
  };
  date = c.read_date-date.result;
  micros = c.micros_between.result;
  reads_clock = record {
    dated = c.read_date-date.new.timer;
    reads_date = c.read_date-date.ensures;
    start = c.read-start.result;
    started = c.read-start.new.self;
    reads_start = c.read-start.ensures;
    end = c.read-end.result;
    reads_end = c.read-end.ensures;
    is_micros = c.micros_between.ensures;
  };
  writes = rw (c.ip-peer.ensures, c.peer.ensures, c.received.ensures) at c.write_entry.ensures;
}
