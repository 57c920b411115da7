mod Layered
