use Rattle.ice_emit_led_laws.proofs.laws.roots_are_led_to_pins.Goals as goal

pub returns : goal.returns
returns c rows plan pullups routes placed trees =
    let of_rows = c.rows_lead_on_from_roots.ensures rows plan pullups routes placed trees in
    let of_pins = c.pins_are_led.ensures c.args.chip.now rows plan pullups routes c.is_chip.ensures placed trees in
    record {
      rows = of_rows.rows;
      roots = of_rows.roots;
      carries = of_rows.carries;
      fixed = λ t i number cell stands fixed. record { inputs = of_pins.fixed t i number cell stands fixed; chained = of_rows.chained t i number cell stands };
      free = of_pins.free;
      controls = of_pins.controls;
      entries = of_rows.entries;
      ports = of_pins.ports;
      feeds = of_pins.feeds;
      clock_enables = of_rows.clock_enables;
      origins = of_rows.origins;
      inputs = of_rows.inputs;
      outputs = of_rows.outputs;
    }
